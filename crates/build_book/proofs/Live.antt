-- Every kernel item has a lookahead: each rule of a nonterminal that is reached is held somewhere, is followed to its recognition
-- point, and gives each of its groups' entries a code.
use Prim.Native.Nat.{ℕ, zero, suc, ◌≤◌, ◌<◌}
use native.Mathlib.Omega.{arith}
use mathlib.Core.Path.{◌≡◌, refl, sym, ap, subst}
use mathlib.Core.Logic.{◌⊎◌, inl, inr}
use mathlib.Core.List.{List, [], ◌∷◌, ◌++◌}
use mathlib.Core.Option.{Option, some}
use lib.ListN.{length, drop}
use Rattle.language.specs.Grammar.{Grammar, Rule, rule_at, concat, IsNonterminal}
use Rattle.language.specs.Sentence.{In, here, there, Reachable, from_goal, from_rule}
use Rattle.language.proofs.Strings.{AllDeclared, later_declared}
use Rattle.language.proofs.GrammarLaws.{at_below}
use Rattle.language.specs.WellFormed as grammar
use Rattle.language.proofs.Member.{in_either}
use Rattle.leftcorner.specs.Table.{Table, string_of}
use Rattle.leftcorner.specs.Construction.{Wanted, of_goal, of_group, entry_item, EntryAt, Has, in_kernel, in_closure, MovedBy, moved}
use Rattle.leftcorner.proofs.Adequate.{Source, rule, entry, before_of, track, behind}
use Rattle.leftcorner.proofs.ReadOff.{string_at}
use Rattle.leftcorner.proofs.Sources.{IsItem, rule_item, entry_item_lem, goes_of}
use Rattle.leftcorner.proofs.ItemStrings.{rest_declared}
use Rattle.build_states.specs.Strings.{entry_strings}
use Rattle.build_states.proofs.EntryLaws.{goal_at, entry_at_lem, entry_line, entry_number, one_entry, entries_meet, found_entry}
use Rattle.build_states.specs.States.{Kernel, item_of, dot_of, alone, states, kernel_of, goto}
use Rattle.build_book.proofs.Over.{goes_over}
use Rattle.build_states.proofs.Limits.{Limits, declared}
use Rattle.build_states.proofs.MoveLaws.{alone_line, move_only}
use Rattle.build_states.proofs.StateLaws.{entry_kernel, Reached, entry_or}
use Rattle.build_states.specs.Lookaheads as look
use Rattle.build_states.specs.Lookaheads.{bare, entry_of, Lookahead}
use Rattle.build_book.proofs.Carried.{group_wanted}

-- ---- where a symbol stands

drop_some : (m : ℕ) (l : List ℕ) → m < length l → (X : ℕ) × (α : List ℕ) × (drop m l ≡ X ∷ α)
drop_some m [] h = absurd (omega (arith, h))
drop_some zero (x ∷ l) h = (x, l, refl)
drop_some (suc m) (x ∷ l) h = drop_some m l (omega (arith, h))

in_place : {X : ℕ} {l : List ℕ} → In X l → (m : ℕ) × (α : List ℕ) × (m ≤ length l) × (drop m l ≡ X ∷ α)
in_place (here {l = l}) = (0, l, omega arith, refl)
in_place (there n) = let r = in_place n in (suc r.0, r.1, omega (arith, r.2), r.3)

in_group : {X : ℕ} (γs : List (List ℕ)) → In X (concat γs) → (δs : List (List ℕ)) × (γ : List ℕ) × (εs : List (List ℕ)) × (γs ≡ δs ++ γ ∷ εs) × In X γ
in_group [] m = elim m [ ]
in_group {X = X} (γ ∷ γs) m = go (in_either γ m) (λ n. in_group γs n)
  where
    Found : List (List ℕ) → Type 0
    Found l = (δs : List (List ℕ)) × (γ : List ℕ) × (εs : List (List ℕ)) × (l ≡ δs ++ γ ∷ εs) × In X γ

    go : In X γ ⊎ In X (concat γs) → (In X (concat γs) → Found γs) → Found (γ ∷ γs)
    go (inl n) rec = ([], γ, γs, refl, n)
    go (inr n) rec = let r = rec n in (γ ∷ r.0, r.1, r.2, ap (λ (l : List (List ℕ)). γ ∷ l) r.3, r.4)

split_at : {γ : List ℕ} {γs : List (List ℕ)} → In γ γs → (δs : List (List ℕ)) × (εs : List (List ℕ)) × (γs ≡ δs ++ γ ∷ εs)
split_at (here {l = l}) = ([], l, refl)
split_at (there {y = δ} n) = let r = split_at n in (δ ∷ r.0, r.1, ap (λ (l : List (List ℕ)). δ ∷ l) r.2)

pub in_one : {x y : ℕ} → In x (y ∷ []) → x ≡ y
in_one here = refl
in_one (there m) = elim m [ ]

module _ (g : Grammar) (F : List ℕ → ℕ → ℕ → Type 0) (W : grammar.WellFormed g) (F-some : (β : List ℕ) → AllDeclared g β → (d : ℕ) → (c : ℕ) × F β d c) where
  abbrev t : Table
  t = bare g

  -- some state holds the item with some code
  abbrev Held : ℕ → ℕ → Type 0
  Held i k = (q : ℕ) × (d : ℕ) × Lookahead g F q i k d

  -- the dot of an item goes on to its recognition point, or its end
  follow : {ι : Source} {i : ℕ} → IsItem g t ι i → (k : ℕ) → k ≤ length (track g (string_at t) ι) → Held i zero → Held i k
  follow s zero l h = h
  follow {ι = ι} s (suc k) l h =
      let r = follow s k (omega (arith, l)) h in
      let n = drop_some k (track g (string_at t) ι) l in
      (goto g r.0 n.0, r.1, look.of_move r.2 (goes_of g t k n.0 n.1 s n.2))

  -- where it stands before X, the rules of X are held
  close : {ι : Source} {i X : ℕ} → IsItem g t ι i → In X (track g (string_at t) ι) → Held i zero → (j : ℕ) (r : Rule) → rule_at g j ≡ some r → r.left ≡ X → Held j zero
  close {ι = ι} {i = i} {X = X} s m h j r e l =
      let p = in_place m in
      let a = follow s p.0 p.2 h in
      let go = goes_of g t p.0 X p.1 s p.3 in
      let f = F-some (p.1 ++ behind g (string_at t) ι) (rest_declared g t (declared g W) (entries_meet g t refl) i p.0 X (p.1 ++ behind g (string_at t) ι) go) a.1 in
      (a.0, f.0, look.of_closure j a.2 go e l f.1)

  -- and the entries of a rule's groups have a code
  group_live : (i : ℕ) (r : Rule) (δs : List (List ℕ)) (γ : List ℕ) (εs : List (List ℕ)) → rule_at g i ≡ some r → r.groups ≡ δs ++ γ ∷ εs → Held i zero
      → (c : ℕ) × Lookahead g F (entry_of g γ) (entry_item g t (entry_of g γ)) zero c
  group_live i r δs γ εs e p h =
      let n : length r.before ≤ length (track g (string_at t) (rule i)) = subst (λ (o : Option Rule). length r.before ≤ length (before_of o)) (sym e) (omega arith) in
      let a = follow (rule_item i r e) (length r.before) n h in
      let f = F-some (concat εs) (later_declared g (declared g W) i r δs γ εs e p) a.1 in
      (f.0, look.of_group i δs γ εs e a.2 p f.1)

  in_entry : (e s X : ℕ) (γ : List ℕ) → EntryAt g t e s γ → In X γ → In X (track g (string_at t) (entry e))
  in_entry e s X γ h m = subst (λ (l : List ℕ). In X l) (sym (ap string_of h)) m

  live : {X : ℕ} → Reachable g X → (j : ℕ) (r : Rule) → rule_at g j ≡ some r → r.left ≡ X → Held j zero
  live from_goal j r e l =
      let a = entry_at_lem g t refl 0 (goal_at g) in
      close (entry_item_lem 1 1 (g.goal ∷ []) a) (in_entry 1 1 g.goal (g.goal ∷ []) a here) (1, zero, look.of_goal) j r e l
  live {X = X} (from_rule i {r = s} f h m) j r e l = go (in_either s.before m) (live h i s f refl)
    where
      go : In X s.before ⊎ In X (concat s.groups) → Held i zero → Held j zero
      go (inl n) h = close (rule_item i s f) (subst (λ (o : Option Rule). In X (before_of o)) (sym f) n) h j r e l
      go (inr n) h =
          let x = in_group s.groups n in
          let c = group_live i s x.0 x.1 x.2 f x.3 h in
          let a = found_entry g t refl (group_wanted g i x.0 x.1 x.2 f x.3) in
          let k = entry_of g x.1 in
          close (entry_item_lem k k x.1 a) (in_entry k k X x.1 a x.4) (k, c.0, c.1) j r e l

  module _ (reach : (X : ℕ) → IsNonterminal g X → Reachable g X) where
    -- every entry has a code
    entry_live : (k s : ℕ) (γ : List ℕ) → EntryAt g t k s γ → (c : ℕ) × Lookahead g F k (entry_item g t k) zero c
    entry_live k s γ h = go (entry_line g t refl k h).3
      where
        go : Wanted g γ → (c : ℕ) × Lookahead g F k (entry_item g t k) zero c
        go (of_goal e) =
            let z = one_entry g t refl 1 k 1 s γ (subst (λ (l : List ℕ). EntryAt g t 1 1 l) (sym e) (entry_at_lem g t refl 0 (goal_at g))) h in
            (zero, subst (λ (n : ℕ). Lookahead g F n (entry_item g t n) zero zero) z look.of_goal)
        go (of_group i {r = r} e m) =
            let x = split_at m in
            let c = group_live i r x.0 γ x.1 e x.2 (live (reach r.left (W.formed i e).left_declared) i r e refl) in
            (c.0, subst (λ (n : ℕ). Lookahead g F n (entry_item g t n) zero c.0) (entry_number g t refl k h) c.1)

    module _ (L : Limits g) where
      -- every item of the state has a code
      abbrev LiveAt : ℕ → Type 0
      LiveAt q = (x : ℕ) → In x (kernel_of g q) → (d : ℕ) × Lookahead g F q (item_of x) (dot_of x) d

      has_code : (p : ℕ) → LiveAt p → {i k : ℕ} → Has g (alone g (kernel_of g p)) 1 i k → (d : ℕ) × Lookahead g F p i k d
      has_code p h {i = i} {k = k} (in_kernel m) =
          let a = alone_line g m in
          let c = h a.0 a.1 in
          (c.0, subst (λ (z : ℕ). Lookahead g F p z k c.0) (sym a.2) (subst (λ (z : ℕ). Lookahead g F p (item_of a.0) z c.0) (sym a.3) c.1))
      has_code p h (in_closure {i = i} {k = k} {X = X} j {β = β} m go e l) =
          let c = has_code p h m in
          let w = goes_over g (alone g (kernel_of g p)) t refl go in
          let f = F-some β (rest_declared g t (declared g W) (entries_meet g t refl) i k X β w) c.0 in
          (f.0, look.of_closure j c.1 w e l f.1)

      moved_code : (p : ℕ) → LiveAt p → {X i n : ℕ} → MovedBy g (alone g (kernel_of g p)) 1 X i n → (d : ℕ) × Lookahead g F (goto g p X) i n d
      moved_code p h (moved m go) =
          let c = has_code p h m in
          (c.0, look.of_move c.1 (goes_over g (alone g (kernel_of g p)) t refl go))

      live_entry : (q : ℕ) → 1 ≤ q → q ≤ length (entry_strings g) → LiveAt q
      live_entry zero l h x m = absurd (omega (arith, l))
      live_entry (suc j) l h x m =
          let k = entry_kernel g (suc j) l h in
          let e = in_one (subst (λ (z : Kernel). In x z) k m) in
          let a = at_below (entry_strings g) j h in
          let c = entry_live (suc j) (suc j) a.0 (entry_at_lem g t refl j a.1) in
          let u : entry_item g t (suc j) ≡ item_of x = omega (arith, e) in
          let v : zero ≡ dot_of x = omega (arith, e) in
          (c.0, subst (λ (z : ℕ). Lookahead g F (suc j) z (dot_of x) c.0) u (subst (λ (z : ℕ). Lookahead g F (suc j) (entry_item g t (suc j)) z c.0) v c.1))

      live_reached : (q : ℕ) → Reached g q → ((p : ℕ) → 1 ≤ p → p < q → LiveAt p) → LiveAt q
      live_reached q r rec x m =
          let v = move_only g (kernel_of g r.from) r.symbol x (subst (λ (z : Kernel). In x z) r.kernel m) in
          let c = moved_code r.from (rec r.from r.low r.earlier) v in
          (c.0, subst (λ (p : ℕ). Lookahead g F p (item_of x) (dot_of x) c.0) r.back c.1)

      below : (n q : ℕ) → q < n → 1 ≤ q → q ≤ length (states g) → LiveAt q
      below zero q l a h = absurd (omega (arith, l))
      below (suc n) q l a h = go (entry_or g q h) (λ p b c. below n p (omega (arith, c, l)) b (omega (arith, c, h)))
        where
          go : (q ≤ length (entry_strings g)) ⊎ Reached g q → ((p : ℕ) → 1 ≤ p → p < q → LiveAt p) → LiveAt q
          go (inl e) rec = live_entry q a e
          go (inr r) rec = live_reached q r rec

      -- "Codes are the context, at least one"
      pub every_live : (q x : ℕ) → 1 ≤ q → q ≤ length (states g) → In x (kernel_of g q) → (d : ℕ) × Lookahead g F q (item_of x) (dot_of x) d
      every_live q x a h m = below (suc q) q (omega arith) a h x m
