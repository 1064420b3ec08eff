-- Entry states and named states in memory are those of the table's lines.
use Prim.Native.Nat.{ℕ, zero, suc, ◌≤◌}
use native.Mathlib.Omega.{arith}
use mathlib.Core.Path.{◌≡◌, refl, ap, ◌∙◌}
use mathlib.Core.Logic.{◌⊎◌, inl, inr}
use mathlib.Core.Bool.{Bool, true, ◌||◌}
use mathlib.Core.List.{List}
use mathlib.Core.Option.{some}
use lib.ListN.{get_or}
use Rattle.language.specs.Grammar.{Grammar}
use Rattle.language.proofs.GrammarLaws.{not_there}
use Rattle.leftcorner.specs.Table.{E, Table, entry_at, state_of}
use Rattle.memory.specs.Memory.{HoldsEntries}
use Rattle.memory.specs.Fits.{Fits}
use Rattle.memory.proofs.RangeLaws.{entry_range}
use Rattle.kernel_lines.proofs.HeldLaws.{in_at, at_in}
use Rattle.check_items.specs.Items.{Named, HoldsNamed}
use Rattle.table_lines.specs.Image.{image, flag}
use Rattle.table_lines.proofs.ImageLaws.{image_read}
use Rattle.table_entries.specs.Memory.{state_at, is_entry_state}
use Rattle.table_actions.specs.Memory.{is_named}
use Rattle.check_views.proofs.Tests.{on_true, true_on, or_tells, or_left, or_right, true_entry, entry_true, true_next, next_true}

module _ (g : Grammar) (t : Table) (F : Fits g t) where
  pub holds_entries : {states : List ℕ} (a : ℕ) → 256 ≤ a → states ≡ image a (state_at t.entries) → HoldsEntries states t
  holds_entries {states} a room are = record { state_is = state_is }
    where
      state_is : (k s : ℕ) {γ : List ℕ} → entry_at t k ≡ some (E s γ) → get_or states k 0 ≡ s
      state_is zero s e = not_there e
      state_is (suc k) s e =
          image_read a (state_at t.entries) are (suc k) (omega (arith, (entry_range t refl (suc k) e).1, F.few_entries, room)) ∙ ap state_of e

  abbrev is_flagged : ℕ → Bool
  is_flagged q = is_entry_state t.entries q || is_named t.actions q

  flagged_named : (q : ℕ) → is_flagged q ≡ true → Named g t q
  flagged_named q e = go (or_tells (is_entry_state t.entries q) (is_named t.actions q) e)
    where
      go : (is_entry_state t.entries q ≡ true) ⊎ (is_named t.actions q ≡ true) → Named g t q
      go (inl h) = let r = true_entry q t.entries h in let k = in_at r.1 in inl (suc k.0, r.0, k.2)
      go (inr h) = inr (true_next q t.actions h)

  named_flagged : (q : ℕ) → Named g t q → is_flagged q ≡ true
  named_flagged q (inl (zero, γ, e)) = not_there e
  named_flagged q (inl (suc k, γ, e)) = or_left (is_named t.actions q) (entry_true q t.entries γ (at_in t.entries k e))
  named_flagged q (inr (p, X, x, m, e)) = or_right (is_entry_state t.entries q) (next_true q t.actions p X x m e)

  pub holds_named : {named : List ℕ} (d : ℕ) → 256 ≤ d → named ≡ image d (λ q. flag (is_flagged q)) → HoldsNamed named g t
  holds_named {named} d room are = record {
    only = λ q l h m. flagged_named q (on_true (is_flagged q) (value q h) m);
    every = λ q l h m. true_on (is_flagged q) (value q h) (named_flagged q m);
  }
    where
      value : (q : ℕ) → q ≤ t.states → get_or named q 0 ≡ flag (is_flagged q)
      value q h = image_read d (λ q. flag (is_flagged q)) are q (omega (arith, h, F.few_states, room))
