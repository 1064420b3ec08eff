-- The choice by what memory holds is that of the grammar.
use Rattle.std.proofs.Common.{◌≡◌, ℕ, zero, suc, ◌+◌, ◌/◌, ◌%◌, ◌<◌, ◌≤◌, List, length, get_or, refl, ap, ◌∙◌, mod-lt, arith}
use Rattle.language.specs.Grammar.{Grammar, IsNonterminal}
use Rattle.generate_loads.specs.Load.{rules_of, stepped, drawn, choice}
use Rattle.generate_loads.proofs.GrownLaws.{some_rule}
use Rattle.generate_choices.specs.Choices.{HoldsChoices, start_at, count_at, shortest_at, listed_at}

module _ (g : Grammar) (choices : List ℕ) (h : HoldsChoices g choices) (X : ℕ) (n : IsNonterminal g X) where
  pub some_choice : 1 ≤ count_at choices X
  some_choice = rw (h.count_is X n) (some_rule g h.formed h.productive X n)

  -- what is drawn is in the list
  pub drawn_in : {start count drawn : ℕ} → start ≡ start_at choices X → count ≡ count_at choices X → drawn < count → 512 + start + drawn < length choices
  drawn_in e f l = omega (arith, e, f, l, h.count_is X n, h.start_in X n, h.room)

  pub choice_none : (d s : ℕ) → d ≡ 0 → (shortest_at choices X ≡ (choice g d X s).rule) × (s ≡ (choice g d X s).state)
  unfolding choice
  choice_none zero s e = (h.shortest_is X n, refl)
  choice_none (suc d) s e = absurd (omega (arith, e))

  pub choice_some : (d s : ℕ) {next start count draw rule : ℕ} → (d ≡ 0 → ⊥) → next ≡ stepped s → start ≡ start_at choices X → count ≡ count_at choices X
      → draw ≡ next / 65536 % count → rule ≡ get_or choices (512 + start + draw) 0 → (rule ≡ (choice g d X s).rule) × (next ≡ (choice g d X s).state)
  unfolding choice drawn
  choice_some zero s f a b c e r = absurd (f refl)
  choice_some (suc d) s {next = next} {start = start} {count = count} {draw = draw} f a b c e r = (
    r ∙ (ap (λ (k : ℕ). get_or choices k 0) (place start draw)
        ∙ (ap (λ (k : ℕ). listed_at choices k) (rw (b, same) refl) ∙ h.rule_is X (drawn s % length (rules_of g X)) n (mod-lt (drawn s) (some_rule g h.formed h.productive X n)))),
    a,
  )
    where
      place : (start draw : ℕ) → 512 + start + draw ≡ 512 + (start + draw)
      place start draw = omega arith

      same : draw ≡ drawn s % length (rules_of g X)
      same = e ∙ rw (a, c, h.count_is X n) refl
