-- The items that are flagged for a kernel set are those of its closure, and those that move are the construction's.
use Prim.Native.Nat.{ℕ, suc, ◌+◌, ◌*◌, ◌-◌, ◌/◌, ◌≤◌, ◌<◌}
use native.Mathlib.Decide.{ℕ_discrete, dec_le}
use native.Mathlib.Omega.{arith}
use mathlib.Core.Path.{◌≡◌, refl, sym, ap, subst, subst₂, ◌∙◌}
use mathlib.Core.Logic.{◌⊎◌, inl, inr}
use mathlib.Core.List.{List, [], ◌∷◌}
use mathlib.Core.Option.{some}
use lib.ListN.{length}
use Rattle.language.specs.Grammar.{Grammar, Rule, at, rule_at}
use Rattle.language.proofs.GrammarLaws.{range_rule, rule_range, at_below}
use Rattle.language.specs.Sentence.{In}
use Rattle.leftcorner.specs.Table.{EntryLine, E, Goes}
use Rattle.leftcorner.specs.Construction.{KernelAt, Has, in_kernel, MovedBy, moved}
use Rattle.build_states.specs.Strings.{entry_strings, entry_lines}
use Rattle.build_states.specs.States.{item_of, dot_of, alone, move}
use Rattle.build_states.proofs.Limits.{bounded, code_low}
use Rattle.build_states.proofs.MoveLaws.{item_of_lem, dot_of_lem, alone_line, line_alone, move_is}
use Rattle.items.specs.Layout.{Shaped, left_at}
use Rattle.memory.specs.Memory.{HoldsItems}
use Rattle.fixpoint.specs.Flags.{On, Marks}
use Rattle.fixpoint.specs.Least.{Least}
use Rattle.closure.specs.InMemory.{DeclaredItem}
use Rattle.analysis.specs.Rests.{rest_at}
use Rattle.closure.specs.Kernel.{BeforeNonterminal}
use Rattle.closure.specs.Steps.{expansions}
use Rattle.closure.specs.Expansion.{Expanded, HasBy, of_kernel, of_rule, has_by, by_has}
use Rattle.closure.proofs.ItemLaws.{ItemHeld, item_held, goes_before, before_goes}
use Rattle.closure.proofs.ExpandLaws.{RulesIn, Seeds, rule_in, in_rule, has_least, least_expanded}
use Rattle.moves.specs.Moves.{symbol_after, Present}
use Rattle.build_moves.specs.Held.{HoldsGrammar, rows_over}
use Rattle.build_moves.specs.Moved.{Numbered, OfNumber, StandsBefore, SameNumber, RuleStart, moved_below, picked, ListsMoves}
use Rattle.build_moves.proofs.PickLaws.{picked_in}
use Rattle.build_moves.proofs.MovedLaws.{after_before, before_after, Moving, in_picks, picks_rise, below_in}

-- x is the number of a kernel item, or of a rule that the closure adds
abbrev pub InClosure : List ℕ → List ℕ → ℕ → List ℕ → ℕ → Type 0
InClosure items present rules k x = OfNumber SameNumber k x ⊎ RuleStart items present (rules + 1) x

entries_length : (a : ℕ) (l : List (List ℕ)) → length (entry_lines a l) ≡ length l
entries_length a [] = refl
entries_length a (γ ∷ l) = ap suc (entries_length (suc a) l)

module _ {items : List ℕ} {rules count : ℕ} (shaped : Shaped items count) (few : rules ≤ count) {k : List ℕ} (low : Numbered count k) where
  -- a dot that moves is below 15, so the number past it is one of the same item
  dot_low : {held : List ℕ} {x y X : ℕ} → x ≤ count * 16 + 16 → Moving items held x y X → dot_of y < 15
  dot_low {y = y} le m =
      let b = before_after items (item_of y) (dot_of y) (λ z. m.filled (sym m.symbol ∙ z)) in
      omega (arith, b.0.within, shaped.lengths (item_of y) (omega (arith, le, m.low)))

  after_low : (i d : ℕ) → i ≤ count → symbol_after items i d < 128
  after_low i d l = go (ℕ_discrete (symbol_after items i d) 0)
    where
      go : Dec (symbol_after items i d ≡ 0) → symbol_after items i d < 128
      go (yes e) = omega arith
      go (no f) =
          let b = before_after items i d f in
          omega (arith, b.1, shaped.symbols i d l (omega (arith, b.0.within, shaped.lengths i l)))

  symbols_low : (x : ℕ) → x < count * 16 + 16 → symbol_after items (item_of x) (dot_of x) < 128
  symbols_low x l = after_low (item_of x) (dot_of x) (omega arith)

  held_low : {present held : List ℕ} → Marks (InClosure items present rules k) held → {x : ℕ} → On held x → 16 ≤ x
  held_low {present} B {x} on = go (B.only x on)
    where
      go : InClosure items present rules k x → 16 ≤ x
      go (inl o) = omega (arith, o.holds, (low o.number o.member).0)
      go (inr s) = omega (arith, s.is, s.above)

  numbers_low : {present held : List ℕ} → Marks (InClosure items present rules k) held → (X : ℕ) → Numbered count (picked X (moved_below items held (count * 16 + 16)))
  numbers_low {held = held} B X y m =
      let r = in_picks items held (count * 16 + 16) symbols_low X (count * 16 + 16) (omega arith) m in
      let d = dot_low (omega arith) r.2 in
      (omega (arith, r.1, held_low B r.2.flag), omega (arith, r.1, r.2.low))

  module _ {strings : ℕ} (sum : rules + strings ≡ count) (g : Grammar) (H : HoldsGrammar items rules strings g) where
    rows : HoldsItems items g (alone g k)
    rows = rows_over (alone g []) (alone g k) refl H.rows

    declared_item : (i : ℕ) → 1 ≤ i → i ≤ count → DeclaredItem g (alone g k) i
    declared_item i l u = go (dec_le i (length g.rules))
      where
        entry : (j : ℕ) → i ≡ length g.rules + suc j → (x : EntryLine) × (at (entry_lines 1 (entry_strings g)) j ≡ some x) → DeclaredItem g (alone g k) i
        entry j e (E s γ, q) = inr (suc j, s, γ, e, q)

        go : Dec (i ≤ length g.rules) → DeclaredItem g (alone g k) i
        go (yes h) = inl (range_rule g i l h)
        go (no f) =
            let j = i - suc (length g.rules) in
            let e : i ≡ length g.rules + suc j = omega arith in
            entry j e (at_below (entry_lines 1 (entry_strings g)) j (omega (arith, entries_length 1 (entry_strings g), H.string_count, H.rule_count, e)))

    item_in : (i : ℕ) → 1 ≤ i → i ≤ count → ItemHeld items g (alone g k) i
    item_in i l u = item_held items g (alone g k) rows i (declared_item i l u) (shaped.lengths i u)

    rules_in : RulesIn items rules g (alone g k)
    rules_in = record {
      holds_rules = λ j e. let r = rule_range g j e in item_in j r.0 (omega (arith, r.1, H.rule_count, few));
      rule_count = H.rule_count;
      left_is = λ j e. (rows.rule_row j e).left_is;
      left_kind = λ j e. (H.formed.formed j e).left_declared.0;
    }

    seeds : Seeds items rules g (alone g k) 1 (OfNumber (StandsBefore items) k)
    seeds = record { held = held; seeded = seeded; seed_of = seed_of }
      where
        held : (i n : ℕ) (σ : List ℕ) → KernelAt g (alone g k) 1 i n σ → ItemHeld items g (alone g k) i
        held i n σ h =
            let r = alone_line g {k = k} h in
            let b = low r.0 r.1 in
            item_in i (omega (arith, r.2, b.0)) (omega (arith, r.2, b.1))

        seeded : (i n b : ℕ) (σ : List ℕ) → KernelAt g (alone g k) 1 i n σ → BeforeNonterminal items i n b → OfNumber (StandsBefore items) k b
        seeded i n b σ h s =
            let r = alone_line g {k = k} h in
            record { number = r.0; member = r.1; holds = subst₂ (λ (j d : ℕ). BeforeNonterminal items j d b) r.2 r.3 s }

        seed_of : (b : ℕ) → OfNumber (StandsBefore items) k b → (i : ℕ) × (n : ℕ) × (σ : List ℕ) × KernelAt g (alone g k) 1 i n σ × BeforeNonterminal items i n b
        seed_of b o = (item_of o.number, dot_of o.number, [], line_alone g o.member, o.holds)

    module _ {present held : List ℕ} (P : Marks (Least (expansions items rules) (OfNumber (StandsBefore items) k)) present)
        (B : Marks (InClosure items present rules k) held) where
      present_at : {i : ℕ} {r : Rule} → rule_at g i ≡ some r → Expanded g (alone g k) 1 r.left → Present items present i
      present_at {i} {r} e x =
          let w = rule_in g (alone g k) rules_in i e in
          let z : r.left ≡ 64 + (r.left - 64) = omega (arith, rules_in.left_kind i e) in
          let q : r.left - 64 ≡ left_at items i - 64 = omega (arith, w.2) in
          let y = subst (Expanded g (alone g k) 1) z x in
          record {
            nonterminal = omega (arith, w.2);
            flagged = subst (On present) q (P.every (r.left - 64) (has_least g (alone g k) rules_in seeds y.has (r.left - 64) y.rest y.goes));
          }

      expanded_at : {i : ℕ} {r : Rule} → rule_at g i ≡ some r → Present items present i → Expanded g (alone g k) 1 r.left
      expanded_at {i} {r} e p =
          let z : 64 + (left_at items i - 64) ≡ r.left = omega (arith, rules_in.left_is i e, p.nonterminal) in
          subst (Expanded g (alone g k) 1) z (least_expanded g (alone g k) rules_in seeds (P.only (left_at items i - 64) p.flagged))

      has_held : {i n : ℕ} → Has g (alone g k) 1 i n → On held (i * 16 + n)
      has_held h = go (has_by g (alone g k) h)
        where
          go : {i n : ℕ} → HasBy g (alone g k) 1 i n → On held (i * 16 + n)
          go {i} (of_kernel {k = n} m) =
              let r = alone_line g {k = k} m in
              let e : i * 16 + n ≡ r.0 = omega (arith, r.2, r.3) in
              B.every (i * 16 + n) (inl (record { number = r.0; member = r.1; holds = e }))
          go {i} (of_rule e x) =
              let w = rule_in g (alone g k) rules_in i e in
              B.every (i * 16 + 0) (inr (record { rule = i; above = w.0; below = omega (arith, w.1); added = present_at e x; is = omega arith }))

      held_has : (x : ℕ) → On held x → Has g (alone g k) 1 (item_of x) (dot_of x)
      held_has x on = go (B.only x on)
        where
          go : InClosure items present rules k x → Has g (alone g k) 1 (item_of x) (dot_of x)
          go (inl o) = subst (λ (y : ℕ). Has g (alone g k) 1 (item_of y) (dot_of y)) (sym o.holds) (in_kernel (line_alone g o.member))
          go (inr s) =
              let r = in_rule g (alone g k) rules_in s.rule s.above (omega (arith, s.below)) in
              let ei : s.rule ≡ item_of x = omega (arith, s.is) in
              let ed : 0 ≡ dot_of x = omega (arith, s.is) in
              subst₂ (Has g (alone g k) 1) ei ed (by_has g (alone g k) (of_rule r.1 (expanded_at r.1 s.added)))

      has_low : {i n : ℕ} → Has g (alone g k) 1 i n → 1 ≤ i
      has_low h = go (has_by g (alone g k) h)
        where
          go : {i n : ℕ} → HasBy g (alone g k) 1 i n → 1 ≤ i
          go (of_kernel m) = let r = alone_line g {k = k} m in omega (arith, r.2, (low r.0 r.1).0)
          go {i} (of_rule e x) = (rule_range g i e).0

      -- what moves, by number
      moving_of : {X i d : ℕ} {β : List ℕ} → Has g (alone g k) 1 i d → Goes g (alone g k) i d X β → Moving items held (count * 16 + 16) (i * 16 + d) X
      moving_of {X} {i} {d} h go =
          let b = bounded g H.formed (alone g k) refl go in
          let c = code_low g H.formed (alone g k) refl b.kind in
          let v = goes_before items g (alone g k) (item_in i (has_low h) (omega (arith, b.item, H.string_count, H.rule_count, sum))) go in
          let ei : item_of (i * 16 + d) ≡ i = item_of_lem i d (omega (arith, b.dot)) in
          let ed : dot_of (i * 16 + d) ≡ d = dot_of_lem i d (omega (arith, b.dot)) in
          record {
            low = omega (arith, b.dot, b.item, H.string_count, H.rule_count, sum);
            flag = has_held h;
            symbol = subst₂ (λ (j n : ℕ). symbol_after items j n ≡ X) (sym ei) (sym ed) (after_before items i d v.0 ∙ v.1);
            filled = λ z. omega (arith, z, c.0);
          }

      moved_of : {X y : ℕ} → Moving items held (count * 16 + 16) y X → MovedBy g (alone g k) 1 X (item_of y) (suc (dot_of y))
      moved_of {X} {y} m =
          let b = before_after items (item_of y) (dot_of y) (λ z. m.filled (sym m.symbol ∙ z)) in
          let i = item_in (item_of y) (omega (arith, held_low B m.flag)) (omega (arith, m.low)) in
          let β = rest_at items (item_of y) (dot_of y + 1) in
          moved (held_has y m.flag) (subst (λ (Y : ℕ). Goes g (alone g k) (item_of y) (dot_of y) Y β) (b.1 ∙ m.symbol) (before_goes items g (alone g k) i b.0))

      moves_are : strings ≤ 127 → (X : ℕ) → X < 128 → move g k X ≡ picked X (moved_below items held (count * 16 + 16))
      moves_are few_strings X lx = move_is g H.formed (omega (arith, H.string_count)) k (picked X l) X (picks_rise items held n symbols_low X n (omega arith)) only every
        where
          n : ℕ
          n = count * 16 + 16

          l : List ℕ
          l = moved_below items held (count * 16 + 16)

          only : (x : ℕ) → In x (picked X l) → MovedBy g (alone g k) 1 X (item_of x) (dot_of x)
          only x m =
              let r = in_picks items held (count * 16 + 16) symbols_low X (count * 16 + 16) (omega arith) m in
              let d = dot_low (omega arith) r.2 in
              let ei : item_of r.0 ≡ item_of x = omega (arith, r.1) in
              let ed : suc (dot_of r.0) ≡ dot_of x = omega (arith, r.1) in
              subst₂ (MovedBy g (alone g k) 1 X) ei ed (moved_of r.2)

          every : (i d : ℕ) → MovedBy g (alone g k) 1 X i d → In (i * 16 + d) (picked X l)
          every i d (moved {k = e} h go) =
              let w : ((i * 16 + e + 1) * 128 + X) / 128 ≡ i * 16 + suc e = omega arith in
              subst (λ (y : ℕ). In y (picked X l)) w (picked_in (below_in items held (count * 16 + 16) (moving_of h go)) (omega arith))

  pub lists_moves : {present held : List ℕ} → Marks (Least (expansions items rules) (OfNumber (StandsBefore items) k)) present → Marks (InClosure items present rules k) held
      → ListsMoves items rules count k (moved_below items held (count * 16 + 16))
  lists_moves P B = record { numbered = numbers_low B; moves = λ g strings H sum f X l u. moves_are sum g H P B f X u }
