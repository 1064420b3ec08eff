-- The computed moves and states are the builder's, where each closure came to its end.
use Prim.Native.Nat.{ℕ, zero, suc, ◌+◌, ◌*◌, ◌%◌, ◌≤◌, ◌<◌}
use native.Mathlib.Omega.{arith}
use mathlib.Core.Path.{◌≡◌, refl, sym, ap, subst, ◌∙◌}
use mathlib.Core.Bool.{Bool, true, false, cond}
use mathlib.Core.List.{List, [], ◌∷◌}
use mathlib.Core.Option.{Option, some, none}
use borrow.Author.Tests.{ltb-true, ltb-false}
use lib.Dec.{ltb}
use lib.ListN.{length, get_or}
use Rattle.language.specs.Grammar.{Grammar}
use Rattle.language.specs.Sentence.{In, here, there}
use Rattle.language.specs.WellFormed as grammar
use Rattle.leftcorner.proofs.ReadOff.{clash}
use Rattle.leftcorner.specs.Table.{Goes}
use Rattle.leftcorner.specs.Construction.{Has, in_kernel, in_closure, MovedBy, moved}
use Rattle.build_states.specs.Strings.{entry_strings}
use Rattle.build_states.proofs.Distinct.{Extends, stays, extends_trans, still_in}
use Rattle.build_states.specs.States.{Kernel, item_of, dot_of, range, find, leave, explore, alone, move, states, kernel_of, goto}
use Rattle.build_states.proofs.Limits.{bounded}
use Rattle.build_book.proofs.Over.{goes_over}
use Rattle.build_states.proofs.MoveLaws.{item_of_lem, dot_of_lem, alone_line, line_alone, move_is}
use Rattle.build_states.proofs.Discovery.{in_get_d, leave_extends}
use Rattle.build_states.proofs.DiscoverySteps.{explore_more, explore_done, leave_over}
use Rattle.build_states.proofs.StateLaws.{first_kernels, states_are}
use Rattle.build_states.specs.Lookaheads.{bare}
use Rattle.build_computed.proofs.Work.{work_only, Whole, work_whole}
use Rattle.build_computed.proofs.First.{and_true}
use Rattle.build_computed.proofs.Moves.{move_from, or_nothing, is_some, every, kernel_in, rest, starts_of, next_items, closure, movers_of, movers, closes, discover, goto_in, rest_goes, goes_rest, rules_of, of_rules, movers_in, in_movers, from_in, in_from, from_rising}

pub every_in : (p : Kernel → Bool) (ks : List Kernel) {k : Kernel} → every p ks ≡ true → In k ks → p k ≡ true
every_in p (k ∷ ks) e here = (and_true (p k) (every p ks) e).0
every_in p (h ∷ ks) e (there m) = every_in p ks (and_true (p h) (every p ks) e).1 m
every_in p [] e m = elim m [ ]

module _ (g : Grammar) (W : grammar.WellFormed g) (few : length (entry_strings g) ≤ 127) where
  -- an item that may move
  pub record Movable (x X : ℕ) : Type 0 where
    pub dot : suc (dot_of x) ≤ 15
    pub low : x < 4096

  pub movable : (x X : ℕ) (β : List ℕ) → rest g (bare g) x ≡ X ∷ β → Movable x X
  movable x X β e =
      let h = bounded g W (bare g) refl (rest_goes g (bare g) x X β e) in
      record { dot = h.dot; low = omega (arith, h.dot, h.item, few, W.few_rules) }

  pub rest_at_lem : {i n X : ℕ} {β : List ℕ} → Goes g (bare g) i n X β → rest g (bare g) (i * 16 + n) ≡ X ∷ β
  rest_at_lem {i = i} {n = n} {X = X} {β = β} h =
      let d : n < 16 = omega (arith, (bounded g W (bare g) refl h).dot) in
      goes_rest g (bare g) (i * 16 + n) X β (subst (λ (z : ℕ). Goes g (bare g) z (dot_of (i * 16 + n)) X β) (sym (item_of_lem i n d))
      (subst (λ (z : ℕ). Goes g (bare g) i z X β) (sym (dot_of_lem i n d)) h))

  module _ (k c : Kernel) (e : closure g (bare g) k ≡ some c) where
    w : Whole (next_items g (bare g)) k [] c
    w = work_whole (next_items g (bare g)) 4096 k [] c e (λ x y m n. elim m [ ])

    Held : ℕ → Type 0
    Held x = Has g (alone g k) 1 (item_of x) (dot_of x)

    closed_step : (x y : ℕ) → Held x → In y (next_items g (bare g) x) → Held y
    unfolding Held
    closed_step x y h m = go (rest g (bare g) x) refl m
      where
        go : (l : List ℕ) → rest g (bare g) x ≡ l → In y (starts_of g (bare g) l) → Has g (alone g k) 1 (item_of y) (dot_of y)
        go [] q n = elim n [ ]
        go (X ∷ β) q n =
            let r = rules_of g X y n in
            let i : r.number ≡ item_of y = omega (arith, r.is) in
            let d : zero ≡ dot_of y = omega (arith, r.is) in
            subst (λ (z : ℕ). Has g (alone g k) 1 z (dot_of y)) i (subst (λ (z : ℕ). Has g (alone g k) 1 r.number z) d
            (in_closure r.number h (goes_over g (bare g) (alone g k) refl (rest_goes g (bare g) x X β q)) r.stands r.of))

    closed_only : (x : ℕ) → In x c → Held x
    unfolding Held
    closed_only = work_only (next_items g (bare g)) Held closed_step 4096 k [] c e (λ x m. in_kernel (line_alone g m)) (λ x m. elim m [ ])

    closed_every : {i n : ℕ} → Has g (alone g k) 1 i n → In (i * 16 + n) c
    closed_every (in_kernel {i = i} {k = n} m) =
        let a = alone_line g m in
        w.did (i * 16 + n) (subst (λ (z : ℕ). In z k) (omega (arith, a.2, a.3)) a.1)
    closed_every (in_closure {i = i} {k = n} {X = X} j {β = β} {r = r} h go q l) =
        let x = i * 16 + n in
        let t = rest_at_lem (goes_over g (alone g k) (bare g) refl go) in
        let m : In (j * 16) (next_items g (bare g) x) = subst (λ (z : List ℕ). In (j * 16) (starts_of g (bare g) z)) (sym t) (of_rules g X j r q l) in
        let z : j * 16 ≡ j * 16 + zero = omega arith in
        subst (λ (y : ℕ). In y c) z (w.closed x (j * 16) (closed_every h) m)

    -- the computed move is the builder's
    pub move_closed : (X : ℕ) → move g k X ≡ move_from (movers_of g (bare g) c) X
    unfolding Held
    move_closed X = move_is g W few k (move_from (movers_of g (bare g) c) X) X (from_rising (movers_of g (bare g) c) X) only all
      where
        only : (z : ℕ) → In z (move_from (movers_of g (bare g) c) X) → MovedBy g (alone g k) 1 X (item_of z) (dot_of z)
        only z m =
            let y = from_in (movers_of g (bare g) c) X z m in
            let v = movers_in g (bare g) c y.0 y.1 in
            let x = v.0 in
            let b = movable x v.1 v.2 v.4 in
            let s : X ≡ v.1 = omega (arith, y.2, v.5, b.low) in
            let t : z ≡ suc x = omega (arith, y.3, v.5, b.low) in
            let i : item_of x ≡ item_of z = omega (arith, t, b.dot) in
            let d : suc (dot_of x) ≡ dot_of z = omega (arith, t, b.dot) in
            let n : MovedBy g (alone g k) 1 v.1 (item_of x) (suc (dot_of x)) = moved (closed_only x v.3)
            (goes_over g (bare g) (alone g k) refl (rest_goes g (bare g) x v.1 v.2 v.4)) in
            subst (λ (Y : ℕ). MovedBy g (alone g k) 1 Y (item_of z) (dot_of z)) (sym s)
            (subst (λ (a : ℕ). MovedBy g (alone g k) 1 v.1 a (dot_of z)) i (subst (λ (a : ℕ). MovedBy g (alone g k) 1 v.1 (item_of x) a) d n))

        all : (i n : ℕ) → MovedBy g (alone g k) 1 X i n → In (i * 16 + n) (move_from (movers_of g (bare g) c) X)
        all i n (moved {k = d} {β = β} h go) =
            let x = i * 16 + d in
            let t = rest_at_lem (goes_over g (alone g k) (bare g) refl go) in
            let b = movable x X β t in
            let y = X * 4096 + x in
            let m = in_from (movers_of g (bare g) c) X y (in_movers g (bare g) c x X β (closed_every h) t) (omega (arith, b.low)) in
            let z : suc (y % 4096) ≡ i * 16 + suc d = omega (arith, b.low) in
            subst (λ (a : ℕ). In a (move_from (movers_of g (bare g) c) X)) z m

  pub move_computed : (k : Kernel) → closes g (bare g) k ≡ true → (X : ℕ) → move g k X ≡ move_from (movers g (bare g) k) X
  move_computed k h X = go (closure g (bare g) k) refl h
    where
      go : (o : Option (List ℕ)) → closure g (bare g) k ≡ o → is_some o ≡ true → move g k X ≡ move_from (movers_of g (bare g) (or_nothing o)) X
      go none e q = clash cc
      go (some c) e q = move_closed k c e X

  -- ---- the states

  discover_extends : (f q : ℕ) (ks : List Kernel) → Extends ks (discover g (bare g) f q ks)
  discover_extends zero q ks = stays ks
  discover_extends (suc f) q ks =
      go (ltb q (length ks)) (discover_extends f (suc q) (leave move_from (movers g (bare g) (get_or ks q [])) (range 1 127) ks))
    where
      go : (t : Bool)
          → Extends (leave move_from (movers g (bare g) (get_or ks q [])) (range 1 127) ks)
          (discover g (bare g) f (suc q) (leave move_from (movers g (bare g) (get_or ks q [])) (range 1 127) ks))
          → Extends ks (cond t (discover g (bare g) f (suc q) (leave move_from (movers g (bare g) (get_or ks q [])) (range 1 127) ks)) ks)
      go true x = extends_trans (leave_extends move_from (range 1 127) (movers g (bare g) (get_or ks q [])) ks) x
      go false x = stays ks

  discovered : (f n q : ℕ) (ks : List Kernel) → f ≤ n → every (closes g (bare g)) (discover g (bare g) f q ks) ≡ true
      → length (discover g (bare g) f q ks) ≤ q + f
      → explore (move g) n q ks ≡ discover g (bare g) f q ks
  discovered zero n q ks l ok h = explore_done (move g) n q ks (omega (arith, h))
  discovered (suc f) zero q ks l ok h = absurd (omega (arith, l))
  discovered (suc f) (suc n) q ks l ok h =
      go (ltb q (length ks)) refl ok h (discovered f n (suc q) (leave move_from (movers g (bare g) (get_or ks q [])) (range 1 127) ks)
      (omega (arith, l)))
    where
      left : List Kernel
      left = leave move_from (movers g (bare g) (get_or ks q [])) (range 1 127) ks

      Rec : Type 0
      Rec = every (closes g (bare g)) (discover g (bare g) f (suc q) left) ≡ true → length (discover g (bare g) f (suc q) left) ≤ suc q + f
          → explore (move g) n (suc q) left ≡ discover g (bare g) f (suc q) left

      go : (t : Bool) → ltb q (length ks) ≡ t → every (closes g (bare g)) (cond t (discover g (bare g) f (suc q) left) ks) ≡ true
          → length (cond t (discover g (bare g) f (suc q) left) ks) ≤ q + suc f → Rec
          → explore (move g) (suc n) q ks ≡ cond t (discover g (bare g) f (suc q) left) ks
      go true t ok h rec =
          let lt = ltb-true q (length ks) t in
          let x = extends_trans (leave_extends move_from (range 1 127) (movers g (bare g) (get_or ks q [])) ks) (discover_extends f (suc q) left) in
          let c = every_in (closes g (bare g)) (discover g (bare g) f (suc q) left) ok (still_in x (in_get_d ks q lt)) in
          explore_more (move g) n q ks lt
          ∙ ap (explore (move g) n (suc q)) (leave_over (move g) move_from (get_or ks q []) (movers g (bare g) (get_or ks q [])) (range 1 127) ks
          (λ X m. move_computed (get_or ks q []) c X))
          ∙ rec ok (omega (arith, h))
      go false t ok h rec = explore_done (move g) (suc n) q ks (ltb-false q (length ks) t)

  -- the states that were computed are the builder's
  pub states_computed : (f : ℕ) → f ≤ 255 → every (closes g (bare g)) (discover g (bare g) f 0 (first_kernels g)) ≡ true
      → length (discover g (bare g) f 0 (first_kernels g)) ≤ f → states g ≡ discover g (bare g) f 0 (first_kernels g)
  states_computed f l ok h = states_are g ∙ discovered f 255 0 (first_kernels g) l ok (omega (arith, h))

  module _ (ks : List Kernel) (same : states g ≡ ks) (ok : every (closes g (bare g)) ks ≡ true) where
    default_closes : (l : List Kernel) (q : ℕ) → every (closes g (bare g)) l ≡ true → closes g (bare g) (get_or l q []) ≡ true
    default_closes [] q e = refl
    default_closes (k ∷ l) zero e = (and_true (closes g (bare g) k) (every (closes g (bare g)) l) e).0
    default_closes (k ∷ l) (suc q) e = default_closes l q (and_true (closes g (bare g) k) (every (closes g (bare g)) l) e).1

    pub kernel_closes : (q : ℕ) → closes g (bare g) (kernel_in ks q) ≡ true
    kernel_closes zero = refl
    kernel_closes (suc q) = default_closes ks q ok

    pub kernel_computed : (q : ℕ) → kernel_of g q ≡ kernel_in ks q
    kernel_computed zero = refl
    kernel_computed (suc q) = ap (λ (l : List Kernel). get_or l q []) same

    pub moves_computed : (q X : ℕ) → move g (kernel_of g q) X ≡ move_from (movers g (bare g) (kernel_in ks q)) X
    moves_computed q X = ap (λ (k : Kernel). move g k X) (kernel_computed q) ∙ move_computed (kernel_in ks q) (kernel_closes q) X

    pub goto_computed : (q X : ℕ) → goto g q X ≡ goto_in g (bare g) ks q X
    unfolding goto
    goto_computed q X =
        ap suc (ap (λ (k : Kernel). find k (states g)) (moves_computed q X) ∙ ap (find (move_from (movers g (bare g) (kernel_in ks q)) X)) same)
