-- How a rule's row fills with each part of the right side.
use Prim.Native.Nat.{ℕ, ◌+◌, ◌%◌, ◌≤◌, ◌<◌}
use mathlib.Core.Path.{◌≡◌, refl, sym, ap, subst, ◌∙◌}
use mathlib.Core.Logic.{⊎_elim}
use mathlib.Core.List.{List, [], ◌∷◌, ◌++◌, append-nil, append_assoc}
use mathlib.Core.Bool.{Bool, true, false, cond, ◌||◌}
use native.Mathlib.Omega.{arith}
use borrow.Author.Tests.{lt-ltb, not-false}
use lib.Dec.{eqb}
use lib.ListN.{length, set, replicate, length-append}
use Rattle.language.specs.Grammar.{Grammar}
use Rattle.language.specs.Tests.{any}
use Rattle.symbol.specs.Symbol.{is_declared}
use Rattle.symbol.proofs.KindLaws.{is_declared_lem}
use Rattle.items.specs.Layout.{group_starts}
use Rattle.items.proofs.BuildLaws.{building, build_start, build_symbol, build_start_flag, build_inside}
use Rattle.items.proofs.GrowLaws.{before_starts, group_starts_lem, last_starts, rule_starts_length}
use Rattle.grammar_rule.specs.declared.Progress.{Progress}
use Rattle.grammar_rule.specs.Parts.{Part, symbol, caret, cut, mark_of, symbols_of}
use Rattle.grammar_rule.specs.Marks.{Shape, before, at_caret, in_group, at_cut, misplaced, with_part, shape_of}
use Rattle.grammar_rule.specs.RuleLine.{undeclared}
use Rattle.grammar_rule.specs.Progress.{Tracks, stage_of}
use Rattle.grammar_rule.specs.Memory.{EmptyRow, begins, with_symbol, before_seen, groups_seen, starts_seen, Placed, Kept}
use Rattle.grammar_rule.proofs.SeenLaws.{Seen, seen, symbols_symbol, symbols_mark, shape_more}
use Rattle.grammar_rule.proofs.TrackLaws.{any_more}

-- ---- declared symbols fit a byte
pub declared_fits : (t n v : ℕ) → t ≤ 63 → n ≤ 64 → undeclared t n v ≡ false → v < 128
declared_fits t n v ht hn e =
    let g : Grammar = record { terminals = t; nonterminals = n; goal = 0; rules = [] } in
    ⊎_elim (λ h. omega (arith, h.1)) (λ h. omega (arith, h.1)) (is_declared_lem g v (not-false (is_declared t n v) e))

pub either_false : (a b : Bool) → a || b ≡ false → (a ≡ false) × (b ≡ false)
either_false true b e = (e, cc)
either_false false b e = (refl, e)

-- ---- the marks of what begins a group
placed_back : (h : Shape) (p : Part) → Placed (with_part h p) → Placed h
placed_back (before α) p k = tt
placed_back (at_caret α) p k = tt
placed_back (in_group α γs Y γ) p k = tt
placed_back (at_cut α γs) p k = tt
placed_back misplaced p k = k

starts_symbol : (h : Shape) (X : ℕ) → Placed h → starts_seen h ++ cond (begins (stage_of h)) 1 0 ∷ [] ≡ starts_seen (with_part h (symbol X))
starts_symbol (before β) X k = sym (before_starts β X)
starts_symbol (at_caret β) X k = ap (λ (l : List ℕ). l ++ 1 ∷ []) (append-nil (replicate (length β) 0))
starts_symbol (in_group β γs Y γ) X k =
    append_assoc (replicate (length β) 0) (group_starts (γs ++ (Y ∷ γ) ∷ [])) (0 ∷ [])
    ∙ ap (λ (l : List ℕ). replicate (length β) 0 ++ l) (sym (last_starts γs Y γ X))
starts_symbol (at_cut β γs) X k =
    append_assoc (replicate (length β) 0) (group_starts γs) (1 ∷ []) ∙ ap (λ (l : List ℕ). replicate (length β) 0 ++ l) (sym (group_starts_lem γs X))
starts_symbol misplaced X k = absurd k

starts_mark : (h : Shape) (b : ℕ) → Placed (with_part h (mark_of b)) → starts_seen (with_part h (mark_of b)) ≡ starts_seen h
starts_mark h b = go (eqb b 94) h
  where
    go : (c : Bool) (h : Shape) → Placed (with_part h (cond c caret cut)) → starts_seen (with_part h (cond c caret cut)) ≡ starts_seen h
    go true (before α) k = refl
    go true (at_caret α) k = absurd k
    go true (in_group α γs Y γ) k = absurd k
    go true (at_cut α γs) k = absurd k
    go true misplaced k = absurd k
    go false (before α) k = absurd k
    go false (at_caret α) k = absurd k
    go false (in_group α γs Y γ) k = refl
    go false (at_cut α γs) k = absurd k
    go false misplaced k = absurd k

starts_length : (h : Shape) (α : List ℕ) → Placed h → Seen h α → length (starts_seen h) ≡ length α
starts_length h α k e = rule_starts_length (record { unit = false; left = 0; before = before_seen h; groups = groups_seen h }) ∙ ap length (e k)

-- ---- a symbol is stored
module _ (m₀ : List ℕ) (base : ℕ) where
  store_symbol : (m : List ℕ) (b : Bool) (α φ : List ℕ) (v : ℕ) → length α < 15 → length φ ≡ length α → m ≡ building m₀ base α φ
      → cond b (set (set m (base + 16 + length α) v) (base + 32 + length α) 1) (set m (base + 16 + length α) v)
      ≡ building m₀ base (α ++ v ∷ []) (φ ++ cond b 1 0 ∷ [])
  store_symbol m true α φ v l e q =
      ap (λ (k : List ℕ). set (set k (base + 16 + length α) v) (base + 32 + length α) 1) q
      ∙ ap (λ (k : List ℕ). set k (base + 32 + length α) 1) (build_symbol m₀ base α φ v (omega arith))
      ∙ ap (λ (j : ℕ). set (building m₀ base (α ++ v ∷ []) φ) (base + 32 + j) 1) (sym e)
      ∙ build_start_flag m₀ base (α ++ v ∷ []) φ 1 (omega (arith, e))
  store_symbol m false α φ v l e q =
      ap (λ (k : List ℕ). set k (base + 16 + length α) v) q
      ∙ build_symbol m₀ base α φ v (omega arith)
      ∙ build_inside m₀ base (α ++ v ∷ []) φ (simp length-append (omega arith))

  pub kept_none : (t n : ℕ) → EmptyRow m₀ base → Kept t n [] m₀ base m₀
  unfolding building
  kept_none t n h k u l = sym (build_start m₀ base h.zeros)

  pub kept_symbol : (t n : ℕ) → t ≤ 63 → n ≤ 64 → (ps : List Part) (p : Progress) (v : ℕ) (m : List ℕ) → Tracks t n ps p → Kept t n ps m₀ base m
      → Kept t n (ps ++ symbol v ∷ []) m₀ base (with_symbol m base p.count p.stage v)
  unfolding building with_symbol
  kept_symbol t n ht hn ps p v m track keep k u l =
      let α = symbols_of ps in
      let h = shape_of ps in
      let k' : Placed (with_part h (symbol v)) = subst Placed (shape_more ps (symbol v)) k in
      let k'' : Placed h = placed_back h (symbol v) k' in
      let u' : any (undeclared t n) α || undeclared t n v ≡ false = sym (any_more (undeclared t n) α v) ∙ ap (any (undeclared t n)) (sym (symbols_symbol ps v)) ∙ u in
      let us = either_false (any (undeclared t n) α) (undeclared t n v) u' in
      let l' : length (symbols_of ps ++ v ∷ []) ≤ 15 = subst (λ (β : List ℕ). length β ≤ 15) (symbols_symbol ps v) l in
      let lt : length (symbols_of ps) < 15 = omega (arith, length-append (symbols_of ps) (v ∷ [])) in
      let small : v < 128 = declared_fits t n v ht hn us.1 in
      let byte : v % 256 ≡ v = omega arith in
      let q : m ≡ building m₀ base α (starts_seen h) = keep k'' us.0 (omega arith) in
      rw (track.count_is, track.stage_is, lt-ltb (length (symbols_of ps)) 15 lt, byte)
      (store_symbol m (begins (stage_of h)) α (starts_seen h) v lt (starts_length h α k'' (seen ps)) q
      ∙ ap (building m₀ base (α ++ v ∷ [])) (starts_symbol h v k'')
      ∙ rw (symbols_symbol ps v, shape_more ps (symbol v)) refl)

  pub kept_mark : (t n : ℕ) (ps : List Part) (b : ℕ) (m : List ℕ) → Kept t n ps m₀ base m → Kept t n (ps ++ mark_of b ∷ []) m₀ base m
  kept_mark t n ps b m keep k u l =
      let h = shape_of ps in
      let k' : Placed (with_part h (mark_of b)) = subst Placed (shape_more ps (mark_of b)) k in
      keep (placed_back h (mark_of b) k') (ap (any (undeclared t n)) (sym (symbols_mark ps b)) ∙ u) (subst (λ (β : List ℕ). length β ≤ 15) (symbols_mark ps b) l)
      ∙ rw (symbols_mark ps b, shape_more ps (mark_of b), starts_mark h b k') refl
