-- From flags in memory to the grammar that memory holds.
use Prim.Native.Nat.{ℕ, ◌%◌, ◌≤◌, ◌<◌}
use mathlib.Core.Path.{◌≡◌, refl, sym, subst, ◌∙◌}
use mathlib.Core.List.{List}
use mathlib.Core.Option.{Option, some, none}
use native.Mathlib.Nat.{not-suc-le-zero}
use native.Mathlib.Omega.{arith}
use lib.ListN.{length, get_or, replicate}
use Rattle.language.specs.Grammar.{Grammar, Rule, rule_at}
use Rattle.language.proofs.GrammarLaws.{rule_range, range_rule}
use Rattle.language.specs.Nullable.{Nullable}
use Rattle.items.specs.Layout.{left_at, length_at, symbol_at, Holds, Shaped}
use Rattle.fixpoint.specs.Flags.{On, Marks}
use Rattle.fixpoint.specs.Least.{Least, Among, least_map}
use Rattle.fixpoint.specs.Rows.{cell, Row, column_low, to_row, from_row}
use Rattle.fixpoint.proofs.PassLaws.{all_off}
use Rattle.grammar_reduction.specs.Derives.{left_of}
use Rattle.grammar_reduction.specs.Reaches.{Occurrence, rule_of, symbol_of}
use Rattle.grammar_reduction.specs.InMemory.{IsRule, productions_in}
use Rattle.grammar_reduction.proofs.TransferLaws.{productions_to, productions_from, marks_map}
use Rattle.analysis.specs.ByRules.{right_of, starting, Itself, BeginsByRules}
use Rattle.analysis.proofs.RuleSets.{rules_nullable, nullable_rules}
use Rattle.analysis.specs.InMemory.{starting_in, Has, FirstFrom, Diagonal, SetsOf}

-- row i of memory is that of rule q
record SameRow (m : List ℕ) (rules i : ℕ) (q : Option Rule) : Type 0 where
  in_rules : IsRule rules i
  same_length : length_at m i ≡ length (right_of q)
  same_symbol : (j : ℕ) → j < 15 → symbol_at m i j ≡ get_or (right_of q) j 0
  same_left : left_at m i ≡ left_of q

module _ {m : List ℕ} {rules : ℕ} (g : Grammar) (s : Shaped m rules) (h : Holds m rules g) where
  same_row : (i : ℕ) {r : Rule} → rule_at g i ≡ some r → SameRow m rules i (rule_at g i)
  same_row i {r} e =
      let row = h.rule_in i e in
      let l = rule_range g i e in
      subst (SameRow m rules i) (sym e)
      (record { in_rules = (l.0, subst (λ (n : ℕ). i ≤ n) h.count l.1); same_length = row.length_is; same_symbol = row.symbol_is; same_left = row.left_is })

  place_row : (i k : ℕ) (q : Option Rule) → rule_at g i ≡ q → k < length (right_of q) → SameRow m rules i (rule_at g i)
  place_row i k none e l = absurd (not-suc-le-zero l)
  place_row i k (some r) e l = same_row i e

  rule_row : (i : ℕ) → IsRule rules i → SameRow m rules i (rule_at g i)
  rule_row i r = same_row i (range_rule g i r.0 (subst (λ (n : ℕ). i ≤ n) (sym h.count) r.1)).1

  module _ {nul : List ℕ} (marks : Marks (Nullable g) nul) where
    low : (i k : ℕ) → SameRow m rules i (rule_at g i) → k < length (right_of (rule_at g i)) → k < 15
    low i k x l = omega (arith, x.same_length, s.lengths i x.in_rules.1)

    pub starting_to : Among (starting g (Nullable g)) (starting_in m rules (On nul))
    starting_to = record {
      send = λ c ok. c;
      send_ok = λ c ok. sent (rule_of c) (symbol_of c) (place_row (rule_of c) (symbol_of c) (rule_at g (rule_of c)) refl ok.0) ok;
      send_needs = λ c ok a n.
          let x = place_row (rule_of c) (symbol_of c) (rule_at g (rule_of c)) refl ok.0 in
          n ∙ x.same_symbol (symbol_of c) (low (rule_of c) (symbol_of c) x ok.0);
      send_head = λ c ok. (place_row (rule_of c) (symbol_of c) (rule_at g (rule_of c)) refl ok.0).same_left;
    }
      where
        sent : (i k : ℕ) → SameRow m rules i (rule_at g i) → (k < length (right_of (rule_at g i))) × ((j : ℕ) → j < k → Nullable g (get_or (right_of (rule_at g i)) j 0))
            → IsRule rules i × (k < length_at m i) × ((j : ℕ) → j < k → On nul (symbol_at m i j))
        sent i k x ok =
            let lk = low i k x ok.0 in (
              x.in_rules,
              subst (λ (n : ℕ). k < n) (sym x.same_length) ok.0,
              λ j l. marks.every (symbol_at m i j) (subst (Nullable g) (sym (x.same_symbol j (omega arith))) (ok.1 j l)),
            )

    pub starting_from : Among (starting_in m rules (On nul)) (starting g (Nullable g))
    starting_from = record {
      send = λ c ok. c;
      send_ok = λ c ok. sent (rule_of c) (symbol_of c) (rule_row (rule_of c) ok.0) ok.1 ok.2;
      send_needs = λ c ok a n. n ∙ sym ((rule_row (rule_of c) ok.0).same_symbol (symbol_of c) (below c ok.0 ok.1));
      send_head = λ c ok. sym (rule_row (rule_of c) ok.0).same_left;
    }
      where
        below : (c : Occurrence) → IsRule rules (rule_of c) → symbol_of c < length_at m (rule_of c) → symbol_of c < 15
        below c r l = omega (arith, l, s.lengths (rule_of c) r.1)

        sent : (i k : ℕ) → SameRow m rules i (rule_at g i) → k < length_at m i → ((j : ℕ) → j < k → On nul (symbol_at m i j))
            → (k < length (right_of (rule_at g i))) × ((j : ℕ) → j < k → Nullable g (get_or (right_of (rule_at g i)) j 0))
        sent i k x l run =
            let lk : k < length (right_of (rule_at g i)) = subst (λ (n : ℕ). k < n) x.same_length l in
            let l15 = low i k x lk in
            (lk, λ j lj. subst (Nullable g) (x.same_symbol j (omega arith)) (marks.only (symbol_at m i j) (run j lj)))

  -- the tables, from flags of nothing and of the terminals
  pub sets_of : {t : ℕ} {ns nul fs₀ fs : List ℕ} → g.terminals ≡ t → ns ≡ replicate 128 0 → Marks (Least (productions_in m rules) (On ns)) nul
      → Marks (Row (Diagonal t)) fs₀ → Marks (Row (FirstFrom m rules (On nul) (Has fs₀))) fs → SetsOf g nul fs
  sets_of {t} {ns} {nul} {fs₀} {fs} e z nulls seeds firsts = record { nullable_marks = nullable; first_marks = marks_map from to firsts }
    where
      nullable : Marks (Nullable g) nul
      nullable =
          marks_map (λ x p. rules_nullable g (least_map (productions_from g s h) (λ y on. all_off 128 z on) p))
          (λ x p. least_map (productions_to g s h) (λ y no. absurd no) (nullable_rules g p)) nulls

      from : (y : ℕ) → Row (FirstFrom m rules (On nul) (Has fs₀)) y → Row (BeginsByRules g) y
      from y p = least_map (starting_from nullable) seeded p
        where
          seeded : (x : ℕ) → Has fs₀ x (y % 64) → Itself g (y % 64) x
          seeded x on =
              let d = from_row (Diagonal t) x (y % 64) (column_low y) (seeds.only (cell x (y % 64)) on.on) in
              (d.0, (d.1, subst (λ (n : ℕ). y % 64 ≤ n) (sym e) d.2))

      to : (y : ℕ) → Row (BeginsByRules g) y → Row (FirstFrom m rules (On nul) (Has fs₀)) y
      to y p = least_map (starting_to nullable) seeded p
        where
          seeded : (x : ℕ) → Itself g (y % 64) x → Has fs₀ x (y % 64)
          seeded x i =
              record { on = seeds.every (cell x (y % 64)) (to_row (Diagonal t) x (y % 64) (column_low y) (i.0, i.1.0, subst (λ (n : ℕ). y % 64 ≤ n) e i.1.1)) }
