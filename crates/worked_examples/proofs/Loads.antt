-- Loads of document 01's books (specs/Loads.antt), by computing.
use Prim.Native.Nat.{ℕ}
use mathlib.Core.Path.{◌≡◌, refl, ◌∙◌}
use mathlib.Core.Bool.{Bool, true}
use mathlib.Core.List.{List, [], ◌∷◌, map}
use lib.Dec.{leb}
use borrow.Author.Tests.{leb-true}
use Rattle.language.specs.Grammar.{Grammar}
use Rattle.range.specs.Range.{within}
use Rattle.reply.specs.Reply.{padded}
use Rattle.fixpoint.specs.Each.{Each}
use Rattle.grammar.specs.Book.{accepted}
use Rattle.generate_loads.specs.Load.{stepped, drawn, derives_within, height_from, height_of, shortest, choice, grow, grown, load}
use Rattle.generator.specs.Generated.{Answer, written_as, fitted, from_book}
use Rattle.generator.proofs.AnswerLaws.{generated_book}
use Rattle.worked_examples.specs.Books.{book, Books}
use Rattle.worked_examples.proofs.Laws.{Computes}
use Rattle.worked_examples.proofs.Computing.{computes}
use Rattle.worked_examples.specs.Loads.{Load, from, loads_g1, loads_g1_cut, loads_d, Made, Loads}

-- what is computed, and what is told
abbrev computed_of : Grammar → Load → Answer
computed_of g (from seed depth w l) = from_book 40 40 (accepted g) seed depth

abbrev told_of : Load → Answer
told_of (from seed depth w l) = written_as 40 40 w l

abbrev shallow : Load → Bool
shallow (from seed depth w l) = leb depth 15

makes : {b : Books} {g : Grammar} {n : ℕ} → Computes b g n → (l : List Load) → map shallow l ≡ map (λ _. true) l → map (computed_of g) l ≡ map told_of l → Each (Made b) l
makes h [] s e = tt
makes {b} {g} h (from seed depth w l ∷ ls) s e =
    (record { makes = generated_book (book b.grammar) seed depth 40 40 (leb-true depth 15 first) h.reads ∙ here }, makes h ls rest later)
  where
    first : leb depth 15 ≡ true
    first = cc

    rest : map shallow ls ≡ map (λ _. true) ls
    rest = cc

    here : from_book 40 40 (accepted g) seed depth ≡ written_as 40 40 w l
    here = cc

    later : map (computed_of g) ls ≡ map told_of ls
    later = cc

pub loads_made : Loads
unfolding stepped drawn derives_within height_from height_of shortest choice grow grown load within fitted padded
loads_made = (makes computes.1 loads_g1 refl refl, makes computes.2 loads_g1_cut refl refl, makes computes.3 loads_d refl refl)
