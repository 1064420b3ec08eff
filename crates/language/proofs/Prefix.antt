-- Sentences and their beginnings, moved along equations and cut shorter.
use Prim.Native.Nat.{ℕ}
use mathlib.Core.Path.{◌≡◌, sym, ◌∙◌}
use mathlib.Core.List.{List, [], ◌++◌, append_assoc, append-nil}
use Rattle.language.specs.Grammar.{Grammar}
use Rattle.language.specs.Sentence.{Sentence, BeginsSentence}

module _ {g : Grammar} where
  abbrev pub sentence_at : {w w' : List ℕ} → w ≡ w' → Sentence g w → Sentence g w'
  sentence_at e s = record { tree = s.tree; derives = s.derives; yields_it = s.yields_it ∙ e }

  -- a sentence begins itself
  pub sentence_begins : (w : List ℕ) → Sentence g w → BeginsSentence g w
  sentence_begins w s = record { remainder = []; sentence = sentence_at (sym (append-nil w)) s }

  -- the front of what begins a sentence begins it too
  pub begins_front : (u v : List ℕ) → BeginsSentence g (u ++ v) → BeginsSentence g u
  begins_front u v b = record { remainder = v ++ b.remainder; sentence = sentence_at (append_assoc u v b.remainder) b.sentence }
