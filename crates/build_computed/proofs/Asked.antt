-- What is asked of a state's cells, computed: each as symbol * 1024 + number.
use Prim.Native.Nat.{ℕ, zero, suc, ◌+◌, ◌-◌, ◌*◌, ◌/◌, ◌%◌, ◌≤◌, ◌<◌}
use native.Mathlib.Omega.{arith}
use mathlib.Core.Path.{◌≡◌, refl, sym, ap, subst, ◌∙◌}
use mathlib.Core.Logic.{◌⊎◌, inl, inr}
use mathlib.Core.Bool.{Bool, true, false}
use mathlib.Core.List.{List, [], ◌∷◌, ◌++◌, map}
use mathlib.Core.Option.{Option, some, none}
use borrow.Author.Tests.{eqb-true, eq-eqb}
use lib.Dec.{eqb}
use lib.ListN.{length}
use Rattle.language.specs.Grammar.{Grammar, Rule, rule_at, concat}
use Rattle.language.specs.Sentence.{In, here, there}
use Rattle.language.proofs.Member.{in_cons, in_left, in_right, in_map, in_either}
use Rattle.language.proofs.GrammarLaws.{rule_range}
use Rattle.leftcorner.proofs.ReadOff.{clash}
use Rattle.std.specs.Prelude.{◌↔◌}
use Rattle.leftcorner.specs.Table.{EntryLine, E, Action, S, N, A, P, Table, entry_at, groups_of, recognition_point}
use Rattle.leftcorner.specs.Construction.{entry_item, EntryAt, Carries, Asked, to_move, to_announce, to_pop}
use Rattle.analysis.specs.ByRules.{FirstByRules}
use Rattle.analysis.proofs.Decided.{first?}
use Rattle.check_verdict.proofs.Closure.{image_in}
use Rattle.build_states.proofs.EntryLaws.{entry_line}
use Rattle.build_states.specs.States.{Kernel, item_of, dot_of, states, kernel_of}
use Rattle.build_book.proofs.LineLaws.{item_table, same_entries, moved_alone, alone_moved}
use Rattle.build_states.proofs.Limits.{Limits, wanted_short}
use Rattle.build_book.proofs.Over.{entry_over}
use Rattle.build_states.proofs.MoveLaws.{item_of_lem, dot_of_lem, in_move, move_only}
use Rattle.build_states.proofs.StateLaws.{goes_to_lem}
use Rattle.build_book.proofs.Carried.{looked, carried}
use Rattle.build_states.specs.Lookaheads.{bare, Lookahead}
use Rattle.build_states.specs.Lookaheads.{terminal_codes}
use Rattle.build_states.proofs.CodeLaws.{first_in, codes_low}
use Rattle.build_computed.proofs.First.{first_of}
use Rattle.build_computed.proofs.Moves.{same_mark, every, kernel_in, closes, movers, goto_in, from_in, in_from}
use Rattle.build_computed.proofs.States.{moves_computed, goto_computed}
use Rattle.build_computed.proofs.Lookaheads.{look_code, is_marked, looks, mark_rule, rule_mark, looks_only, Listed, listed}

abbrev pub end_of : Option EntryLine → ℕ → Bool
end_of none k = false
end_of (some (E s γ)) k = eqb (length γ) k

-- "A finished entry item pops 1 plus its length on each code of its context."
abbrev pub pop_if : Bool → ℕ → ℕ → List ℕ
pop_if true k d = (d * 1024 + (768 + suc k)) ∷ []
pop_if false k d = []

module _ (g : Grammar) (b : Table) (nl fl : List ℕ) (ks : List Kernel) where
  -- "at the recognition point with rest β and context σ, announce on each of first(β, σ)"
  abbrev pub announce_if : Bool → ℕ → ℕ → List ℕ
  announce_if true i d = map (λ (c : ℕ). c * 1024 + (512 + i)) (first_of nl fl (concat (groups_of (rule_at g i))) d)
  announce_if false i d = []

  abbrev pub item_asks : ℕ → ℕ → List ℕ
  item_asks x d = announce_if (is_marked g b nl fl ks x) (item_of x) d ++ pop_if (end_of (entry_at b (item_of x - length g.rules)) (dot_of x)) (dot_of x) d

  abbrev pub on_state : Bool → ℕ → List ℕ
  on_state true y = item_asks (y / 64 % 4096) (y % 64)
  on_state false y = []

  abbrev pub look_asks : ℕ → List ℕ → List ℕ
  look_asks q [] = []
  look_asks q (y ∷ ls) = on_state (eqb (y / 262144) q) y ++ look_asks q ls

  -- "Shift, or N, on each possible move."
  abbrev pub move_ask : ℕ → ℕ → ℕ
  move_ask q y = (y / 4096) * 1024 + (256 + goto_in g b ks q (y / 4096))

  abbrev pub asks : List ℕ → ℕ → List ℕ
  asks ls q = map (move_ask q) (movers g b (kernel_in ks q)) ++ look_asks q ls

  -- the number of an action, with the next state of a move
  abbrev pub wants : ℕ → ℕ → Action → ℕ
  wants q X (S s) = 256 + goto_in g b ks q X
  wants q X (N s) = 256 + goto_in g b ks q X
  wants q X (A i) = 512 + i
  wants q X (P n) = 768 + n

  looks_in : (q : ℕ) (ls : List ℕ) (a : ℕ) → In a (look_asks q ls) → (y : ℕ) × In y ls × (y / 262144 ≡ q) × In a (item_asks (y / 64 % 4096) (y % 64))
  looks_in q [] a m = elim m [ ]
  looks_in q (y ∷ ls) a m = go (in_either (on_state (eqb (y / 262144) q) y) m) (looks_in q ls a)
    where
      Made : List ℕ → Type 0
      Made l = (z : ℕ) × In z l × (z / 262144 ≡ q) × In a (item_asks (z / 64 % 4096) (z % 64))

      on : (t : Bool) → eqb (y / 262144) q ≡ t → In a (on_state t y) → Made (y ∷ ls)
      on true e n = (y, here, eqb-true (y / 262144) q e, n)
      on false e n = elim n [ ]

      go : In a (on_state (eqb (y / 262144) q) y) ⊎ In a (look_asks q ls) → (In a (look_asks q ls) → Made ls) → Made (y ∷ ls)
      go (inl n) rec = on (eqb (y / 262144) q) refl n
      go (inr n) rec = let r = rec n in (r.0, there r.1, r.2, r.3)

  in_looks : (q y a : ℕ) (ls : List ℕ) → In y ls → y / 262144 ≡ q → In a (item_asks (y / 64 % 4096) (y % 64)) → In a (look_asks q ls)
  in_looks q y a (z ∷ ls) here e n = in_left (look_asks q ls) (subst (λ (t : Bool). In a (on_state t y)) (sym (eq-eqb (y / 262144) q e)) n)
  in_looks q y a (z ∷ ls) (there m) e n = in_right (on_state (eqb (z / 262144) q) z) (in_looks q y a ls m e n)
  in_looks q y a [] m e n = elim m [ ]

  pub at_look : (q x d a : ℕ) (ls : List ℕ) → x < 4096 → d < 64 → In (look_code q x d) ls → In a (item_asks x d) → In a (look_asks q ls)
  at_look q x d a ls l h m n =
      let y = look_code q x d in
      let q' : y / 262144 ≡ q = omega (arith, l, h) in
      let x' : x ≡ y / 64 % 4096 = omega (arith, l, h) in
      let d' : d ≡ y % 64 = omega (arith, h) in
      in_looks q y a ls m q' (subst (λ (z : ℕ). In a (item_asks z (y % 64))) x' (subst (λ (z : ℕ). In a (item_asks x z)) d' n))

module _ (g : Grammar) (L : Limits g) (ks : List Kernel) (same : states g ≡ ks) (ok : every (closes g (bare g)) ks ≡ true)
    (nl fl : List ℕ) (F_is : (β : List ℕ) (d c : ℕ) → In c (first_of nl fl β d) ↔ FirstByRules g β d c)
    (f : ℕ) (ls : List ℕ) (done : looks g (bare g) nl fl ks f ≡ some ls) where
  abbrev t : Table
  t = item_table g (FirstByRules g) (first? g) (terminal_codes g) (first_in g)

  abbrev Asks : ℕ → ℕ → Action → Type 0
  Asks q X x = Asked g t (FirstByRules g) q X x

  abbrev found : {q i k d : ℕ} → Carries g t (FirstByRules g) q i k d → Listed g L.formed L.few_entries ks same ok nl fl F_is f ls done q i k d
  found h =
      listed g L.formed L.few_entries ks same ok nl fl F_is f ls done (looked g (FirstByRules g) (first? g) (terminal_codes g) (first_in g) h)

  entry_bare : (k : ℕ) {s : ℕ} {γ : List ℕ} → EntryAt g t k s γ → entry_at (bare g) k ≡ some (E s γ)
  entry_bare k e = sym (entry_over g t (bare g) (same_entries g (FirstByRules g) (first? g) (terminal_codes g) (first_in g)) k) ∙ e

  -- ---- what is asked is computed

  pub record Computed (q X : ℕ) (x : Action) : Type 0 where
    pub low : wants g (bare g) nl fl ks q X x < 1024
    pub stands : In (X * 1024 + wants g (bare g) nl fl ks q X x) (asks g (bare g) nl fl ks ls q)

  ask_late : (q a : ℕ) → In a (look_asks g (bare g) nl fl ks q ls) → In a (asks g (bare g) nl fl ks ls q)
  ask_late q a m = in_right (map (move_ask g (bare g) nl fl ks q) (movers g (bare g) (kernel_in ks q))) m

  pub asked_computed : {q X : ℕ} {x : Action} → 1 ≤ q → q ≤ length (states g) → Asks q X x → Computed q X x
  asked_computed {q = q} {X = X} l h (to_move {i = i} {n = n} m) =
      let a = moved_alone g (FirstByRules g) (first? g) (terminal_codes g) (first_in g) m in
      let u = goes_to_lem g L q X i n l h a in
      let v = subst (λ (k : Kernel). In (i * 16 + n) k) (moves_computed g L.formed L.few_entries ks same ok q X)
      (in_move g L.formed L.few_entries (kernel_of g q) a) in
      let y = from_in (movers g (bare g) (kernel_in ks q)) X (i * 16 + n) v in
      let p = in_left (look_asks g (bare g) nl fl ks q ls)
      (image_in (move_ask g (bare g) nl fl ks q) y.0 (movers g (bare g) (kernel_in ks q)) y.1) in
      record {
        low = omega (arith, goto_computed g L.formed L.few_entries ks same ok q X, u.high, L.few_states);
        stands = subst (λ (z : ℕ). In (z * 1024 + (256 + goto_in g (bare g) ks q z)) (asks g (bare g) nl fl ks ls q)) y.2 p;
      }
  asked_computed {q = q} {X = X} l h (to_announce i {d = d} {r = r} e c F) =
      let v = found c in
      let x = i * 16 + length r.before in
      let a : item_of x ≡ i = item_of_lem i (length r.before) v.dot in
      let b : dot_of x ≡ length r.before = dot_of_lem i (length r.before) v.dot in
      let m : is_marked g (bare g) nl fl ks x ≡ true = ap (λ (z : ℕ). same_mark (recognition_point g (bare g) z) (dot_of x)) a
      ∙ ap (same_mark (recognition_point g (bare g) i)) b ∙ rule_mark g (bare g) nl fl ks i r e in
      let s : concat r.groups ≡ concat (groups_of (rule_at g i)) = ap (λ (o : Option Rule). concat (groups_of o)) (sym e) in
      let n : In (X * 1024 + (512 + i)) (announce_if g (bare g) nl fl ks true i d) =
      image_in (λ (z : ℕ). z * 1024 + (512 + i)) X (first_of nl fl (concat (groups_of (rule_at g i))) d)
      (subst (λ (β : List ℕ). In X (first_of nl fl β d)) s ((F_is (concat r.groups) d X).1 F)) in
      let o : In (X * 1024 + (512 + i)) (announce_if g (bare g) nl fl ks (is_marked g (bare g) nl fl ks x) (item_of x) d) =
      subst (λ (z : Bool). In (X * 1024 + (512 + i)) (announce_if g (bare g) nl fl ks z (item_of x) d)) (sym m)
      (subst (λ (z : ℕ). In (X * 1024 + (512 + i)) (announce_if g (bare g) nl fl ks true z d)) (sym a) n) in
      record {
        low = omega (arith, (rule_range g i e).1, L.formed.few_rules);
        stands = ask_late q (X * 1024 + (512 + i)) (at_look g (bare g) nl fl ks q x d (X * 1024 + (512 + i)) ls v.item v.code v.stands
            (in_left (pop_if (end_of (entry_at (bare g) (item_of x - length g.rules)) (dot_of x)) (dot_of x) d) o));
      }
  asked_computed {q = q} {X = X} l h (to_pop k {s = s} {γ = γ} e c) =
      let v = found c in
      let i = entry_item g t k in
      let x = i * 16 + length γ in
      let a : item_of x ≡ i = item_of_lem i (length γ) v.dot in
      let b : dot_of x ≡ length γ = dot_of_lem i (length γ) v.dot in
      let j : item_of x - length g.rules ≡ k = omega (arith, a) in
      let m : end_of (entry_at (bare g) (item_of x - length g.rules)) (dot_of x) ≡ true =
      ap (λ (z : ℕ). end_of (entry_at (bare g) z) (dot_of x)) j ∙ ap (λ (o : Option EntryLine). end_of o (dot_of x)) (entry_bare k e)
      ∙ eq-eqb (length γ) (dot_of x) (sym b) in
      let n : In (X * 1024 + (768 + suc (length γ))) (pop_if (end_of (entry_at (bare g) (item_of x - length g.rules)) (dot_of x)) (dot_of x) X) =
      subst (λ (z : Bool). In (X * 1024 + (768 + suc (length γ))) (pop_if z (dot_of x) X)) (sym m)
      (subst (λ (z : ℕ). In (X * 1024 + (768 + suc (length γ))) (pop_if true z X)) (sym b) here) in
      record {
        low = omega (arith, wanted_short g L.formed (bare g) refl (entry_line g (bare g) refl k (entry_bare k e)).3);
        stands =
            ask_late q (X * 1024 + (768 + suc (length γ))) (at_look g (bare g) nl fl ks q x X (X * 1024 + (768 + suc (length γ))) ls v.item
            v.code v.stands
            (in_right (announce_if g (bare g) nl fl ks (is_marked g (bare g) nl fl ks x) (item_of x) X) n));
      }

  -- ---- what is computed is asked

  abbrev Some : ℕ → ℕ → Type 0
  Some q X = (x : Action) × Asks q X x

  held : {q i k d : ℕ} → Lookahead g (FirstByRules g) q i k d → Carries g t (FirstByRules g) q i k d
  held h = carried g (FirstByRules g) (first? g) (terminal_codes g) (first_in g) L (codes_low g) h

  end_entry : (e k : ℕ) → end_of (entry_at (bare g) e) k ≡ true → (s : ℕ) × (γ : List ℕ) × (1 ≤ e) × EntryAt g t e s γ × (length γ ≡ k)
  end_entry zero k q = clash cc
  end_entry (suc e) k q = go (entry_at (bare g) (suc e)) refl q
    where
      go : (o : Option EntryLine) → entry_at (bare g) (suc e) ≡ o → end_of o k ≡ true
          → (s : ℕ) × (γ : List ℕ) × (1 ≤ suc e) × EntryAt g t (suc e) s γ × (length γ ≡ k)
      go none p z = clash cc
      go (some (E s γ)) p z = (
        s,
        γ,
        omega arith,
        entry_over g t (bare g) (same_entries g (FirstByRules g) (first? g) (terminal_codes g) (first_in g)) (suc e)
            ∙ p,
        eqb-true (length γ) k z,
      )

  pub computed_asked : (q X v : ℕ) → 1 ≤ q → q ≤ length (states g) → v < 1024 → In (X * 1024 + v) (asks g (bare g) nl fl ks ls q) → Some q X
  computed_asked q X v l h low m = go (in_either (map (move_ask g (bare g) nl fl ks q) (movers g (bare g) (kernel_in ks q))) m)
    where
      at_symbol : (Y : ℕ) → Y ≡ X → (x : Action) → Asks q Y x → Some q X
      at_symbol Y e x a = (x, subst (λ (z : ℕ). Asks q z x) e a)

      moving : (y : ℕ) → In y (movers g (bare g) (kernel_in ks q)) → X * 1024 + v ≡ move_ask g (bare g) nl fl ks q y → Some q X
      moving y n e =
          let z = in_from (movers g (bare g) (kernel_in ks q)) (y / 4096) y n refl in
          let a = move_only g (kernel_of g q) (y / 4096) (suc (y % 4096))
          (subst (λ (k : Kernel). In (suc (y % 4096)) k) (sym (moves_computed g L.formed L.few_entries ks same ok q (y / 4096))) z) in
          let u = goes_to_lem g L q (y / 4096) _ _ l h a in
          at_symbol (y / 4096) (omega (arith, e, low, goto_computed g L.formed L.few_entries ks same ok q (y / 4096), u.high, L.few_states))
          (S 0)
          (to_move (alone_moved g (FirstByRules g) (first? g) (terminal_codes g) (first_in g) l h a))

      announcing : (x d : ℕ) → Lookahead g (FirstByRules g) q (item_of x) (dot_of x) d → (b : Bool) → is_marked g (bare g) nl fl ks x ≡ b
          → In (X * 1024 + v) (announce_if g (bare g) nl fl ks b (item_of x) d) → Some q X
      announcing x d k false e n = elim n [ ]
      announcing x d k true e n =
          let r = mark_rule g (bare g) nl fl ks (item_of x) (dot_of x) e in
          let c = in_map (λ (z : ℕ). z * 1024 + (512 + item_of x)) (first_of nl fl (concat (groups_of (rule_at g (item_of x)))) d) n in
          let F = (F_is (concat (groups_of (rule_at g (item_of x)))) d c.0).0 c.1 in
          let s = ap (λ (o : Option Rule). concat (groups_of o)) r.1 in
          at_symbol c.0 (omega (arith, c.2, low, (rule_range g (item_of x) r.1).1, L.formed.few_rules)) (A (item_of x))
          (to_announce (item_of x) r.1 (held (subst (λ (z : ℕ). Lookahead g (FirstByRules g) q (item_of x) z d) (sym r.2) k))
          (subst (λ (β : List ℕ). FirstByRules g β d c.0) s F))

      popping : (x d : ℕ) → Lookahead g (FirstByRules g) q (item_of x) (dot_of x) d → (b : Bool)
          → end_of (entry_at (bare g) (item_of x - length g.rules)) (dot_of x) ≡ b → In (X * 1024 + v) (pop_if b (dot_of x) d) → Some q X
      popping x d k false e n = elim n [ ]
      popping x d k true e n =
          let w = end_entry (item_of x - length g.rules) (dot_of x) e in
          let i : item_of x ≡ entry_item g t (item_of x - length g.rules) = omega (arith, w.2) in
          at_symbol d (one (in_cons n)) (P (suc (length w.1)))
          (to_pop (item_of x - length g.rules) w.3 (held
          (subst (λ (z : ℕ). Lookahead g (FirstByRules g) q z (length w.1) d) i
          (subst (λ (z : ℕ). Lookahead g (FirstByRules g) q (item_of x) z d) (sym w.4) k))))
        where
          one : (X * 1024 + v ≡ d * 1024 + (768 + suc (dot_of x))) ⊎ In (X * 1024 + v) [] → d ≡ X
          one (inl p) = omega (arith, p, low)
          one (inr k) = elim k [ ]

      item : (x d : ℕ) → Lookahead g (FirstByRules g) q (item_of x) (dot_of x) d
          → In (X * 1024 + v) (announce_if g (bare g) nl fl ks (is_marked g (bare g) nl fl ks x) (item_of x) d)
          ⊎ In (X * 1024 + v) (pop_if (end_of (entry_at (bare g) (item_of x - length g.rules)) (dot_of x)) (dot_of x) d) → Some q X
      item x d k (inl n) = announcing x d k (is_marked g (bare g) nl fl ks x) refl n
      item x d k (inr n) = popping x d k (end_of (entry_at (bare g) (item_of x - length g.rules)) (dot_of x)) refl n

      go : In (X * 1024 + v) (map (move_ask g (bare g) nl fl ks q) (movers g (bare g) (kernel_in ks q)))
          ⊎ In (X * 1024 + v) (look_asks g (bare g) nl fl ks q ls) → Some q X
      go (inl n) = let y = in_map (move_ask g (bare g) nl fl ks q) (movers g (bare g) (kernel_in ks q)) n in moving y.0 y.1 y.2
      go (inr n) =
          let y = looks_in g (bare g) nl fl ks q ls (X * 1024 + v) n in
          let k = looks_only g L.formed L.few_entries ks same ok nl fl F_is f ls done y.0 y.1 in
          let x = y.0 / 64 % 4096 in
          let d = y.0 % 64 in
          item x d (subst (λ (z : ℕ). Lookahead g (FirstByRules g) z (item_of x) (dot_of x) d) y.2 k)
          (in_either (announce_if g (bare g) nl fl ks (is_marked g (bare g) nl fl ks x) (item_of x) d) y.3)
