-- What could have come after the starred sessions (specs/Expected.antt), by computing.
use Prim.Native.Nat.{ℕ}
use mathlib.Core.Path.{◌≡◌, refl, ◌∙◌}
use mathlib.Core.List.{List, [], ◌∷◌, map}
use Rattle.reply.specs.Reply.{padded}
use Rattle.language.specs.Grammar.{Grammar}
use Rattle.range.specs.Range.{within}
use Rattle.fixpoint.specs.Each.{Each}
use Rattle.build_states.specs.Strings.{entry_strings, add_string, add_groups, add_rules}
use Rattle.build_states.specs.States.{leave, note, note_if}
use Rattle.build_computed.proofs.Computed.{computed}
use Rattle.stray_tokens.specs.Stray.{stray_from}
use Rattle.session.specs.Session.{table_session}
use Rattle.expected_trials.specs.Trials.{listed_at, tried}
use Rattle.expected_trials.specs.Trials as trials
use Rattle.expected.specs.Expected.{list_for}
use Rattle.worked_examples.specs.Books.{Books}
use Rattle.worked_examples.proofs.Laws.{Computes, expected_over, expected_is}
use Rattle.worked_examples.proofs.Computing.{computes}
use Rattle.worked_examples.specs.Expected.{Fitting, after, fitting_g1, fitting_g1_cut, fitting_d, Listed, Expected}

abbrev answer_of : Fitting → trials.Expected
answer_of (after w p codes) = listed_at 64 p codes

abbrev over_table : Grammar → ℕ → Fitting → trials.Expected
over_table g n (after w p codes) = expected_over g (computed g n) w 20 20 64

lists : {b : Books} {g : Grammar} {n : ℕ} → Computes b g n → (l : List Fitting) → map (over_table g n) l ≡ map answer_of l → Each (Listed b) l
lists h [] e = tt
lists {g = g} {n = n} h (after w p codes ∷ l) e = (record { lists = expected_is h w 20 20 64 ∙ here }, lists h l later)
  where
    here : expected_over g (computed g n) w 20 20 64 ≡ listed_at 64 p codes
    here = cc

    later : map (over_table g n) l ≡ map answer_of l
    later = cc

pub expected_listed : Expected
unfolding entry_strings add_rules add_groups add_string leave note note_if within stray_from table_session padded list_for tried
expected_listed = (lists computes.1 fitting_g1 refl, lists computes.2 fitting_g1_cut refl, lists computes.3 fitting_d refl)
