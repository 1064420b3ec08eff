-- The starred sessions (specs/Starred.antt), by computing.
use Prim.Native.Nat.{ℕ}
use mathlib.Core.Path.{◌≡◌, refl, ◌∙◌}
use mathlib.Core.List.{List, [], ◌∷◌, map}
use Rattle.reply.specs.Reply.{padded}
use Rattle.language.specs.Grammar.{Grammar}
use Rattle.range.specs.Range.{within}
use Rattle.fixpoint.specs.Each.{Each}
use Rattle.build_states.specs.Strings.{entry_strings, add_string, add_groups, add_rules}
use Rattle.build_states.specs.States.{leave, note, note_if}
use Rattle.build_computed.proofs.Computed.{computed}
use Rattle.stray_tokens.specs.Stray.{stray_from}
use Rattle.session.specs.Session.{Session, table_session}
use Rattle.worked_examples.specs.Books.{Books}
use Rattle.worked_examples.proofs.Laws.{Computes, session_over, session_is}
use Rattle.worked_examples.proofs.Computing.{computes}
use Rattle.worked_examples.proofs.Built.{by_computing}
use Rattle.worked_examples.specs.Starred.{Told, told_g1, told_g1_cut, told_d, tokens_of, answer_of, Answered, Starred}

-- a list that equals another does so after its first entry (by itself: `cc` in `answers` would compute sessions)
rest_same : {A : Type 0} {x y : A} {l m : List A} → x ∷ l ≡ y ∷ m → l ≡ m
rest_same e = cc

answers : {b : Books} {g : Grammar} {n : ℕ} → Computes b g n → (l : List Told)
    → map (λ (x : Told). session_over g (computed g n) (tokens_of x) 20 20) l ≡ map answer_of l → Each (Answered b) l
answers h [] e = tt
answers {g = g} {n = n} h (x ∷ l) e = (record { answer = session_is h (tokens_of x) 20 20 ∙ here }, answers h l later)
  where
    over_table : Told → Session
    over_table y = session_over g (computed g n) (tokens_of y) 20 20

    here : over_table x ≡ answer_of x
    here = cc

    later : map over_table l ≡ map answer_of l
    later = rest_same e

pub starred : Starred
unfolding entry_strings add_rules add_groups add_string leave note note_if within stray_from table_session padded
starred = (
  (by_computing computes.1, answers computes.1 told_g1 refl),
  ((by_computing computes.2, answers computes.2 told_g1_cut refl), ((by_computing computes.3, answers computes.3 told_d refl), tt)),
)
