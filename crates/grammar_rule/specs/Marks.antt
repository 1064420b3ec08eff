-- Where marks may stand. Document 01, 'Books': "the mark `^` once, at the recognition point, and a cut `/` only to its right,
-- never beside `^` or another `/`, never last. [..] The symbols after `^`, parted at cuts, are the rule's groups; there may be none."
use Rattle.std.specs.Prelude.{ℕ, List, [], ◌∷◌, ◌++◌}
use Rattle.grammar_rule.specs.Parts.{Part, symbol, caret, cut}

-- how far a right side has come: the symbols left of `^`, and the groups after it
pub data Shape : Type 0 where
  before : List ℕ → Shape  -- no `^` yet
  at_caret : List ℕ → Shape  -- `^` was the last part
  in_group : List ℕ → List (List ℕ) → ℕ → List ℕ → Shape  -- groups, and the symbols of one that is going on, of which there is a first
  at_cut : List ℕ → List (List ℕ) → Shape  -- `/` was the last part
  misplaced : Shape

abbrev pub with_part : Shape → Part → Shape
with_part (before α) (symbol X) = before (α ++ X ∷ [])
with_part (before α) caret = at_caret α
with_part (before α) cut = misplaced
with_part (at_caret α) (symbol X) = in_group α [] X []
with_part (at_caret α) caret = misplaced
with_part (at_caret α) cut = misplaced
with_part (in_group α γs Y γ) (symbol X) = in_group α γs Y (γ ++ X ∷ [])
with_part (in_group α γs Y γ) caret = misplaced
with_part (in_group α γs Y γ) cut = at_cut α (γs ++ (Y ∷ γ) ∷ [])
with_part (at_cut α γs) (symbol X) = in_group α γs X []
with_part (at_cut α γs) caret = misplaced
with_part (at_cut α γs) cut = misplaced
with_part misplaced p = misplaced

abbrev pub shape_from : Shape → List Part → Shape
shape_from h [] = h
shape_from h (p ∷ ps) = shape_from (with_part h p) ps

abbrev pub shape_of : List Part → Shape
shape_of ps = shape_from (before []) ps

-- what is done with a right side that has come to its end: `^` must have come, and a cut may not be last
abbrev pub on_marked : {A : Type 0} → Shape → (List ℕ → List (List ℕ) → A) → A → A
on_marked (before α) f y = y
on_marked (at_caret α) f y = f α []
on_marked (in_group α γs Y γ) f y = f α (γs ++ (Y ∷ γ) ∷ [])
on_marked (at_cut α γs) f y = y
on_marked misplaced f y = y
