-- A rule's row in the item table while the rule is read.
use Rattle.std.specs.Prelude.{ℕ, ◌+◌, ◌%◌, ◌≤◌, ◌<◌, ◌≡◌, List, [], ◌∷◌, ◌++◌, Bool, true, false, cond, ltb, length, get_or, set, replicate}
use Rattle.std.proofs.lemmas.List.Edits.{sets}
use Rattle.language.specs.Tests.{any}
use Rattle.items.specs.Layout.{body, group_starts, row_of}
use Rattle.grammar_rule.specs.declared.Stage.{Stage}
use Rattle.grammar_rule.specs.declared.Stage.TheVariants as stage
use Rattle.grammar_rule.specs.Parts.{Part, Rest, parts, broken, symbols_of}
use Rattle.grammar_rule.specs.Marks.{Shape, before, at_caret, in_group, at_cut, misplaced, shape_of}
use Rattle.grammar_rule.specs.RuleLine.{Line, read, refused, undeclared}

-- the row at `base` is zeros
pub record EmptyRow (m : List ℕ) (base : ℕ) : Type 0 where
  pub room : base + 64 ≤ length m
  pub zeros : (j : ℕ) → base ≤ j → j < base + 64 → get_or m j 0 ≡ 0

-- the next symbol begins a group
abbrev pub begins : Stage → Bool
begins stage.Before = false
begins stage.AtCaret = true
begins stage.InGroup = false
begins stage.AtCut = true
begins stage.Misplaced = false

-- a symbol in its place, with a 1 in the group marks where it begins one; a 16th is not stored
unfoldable pub with_symbol : List ℕ → ℕ → ℕ → Stage → ℕ → List ℕ
with_symbol m base count g v =
    cond (ltb count 15)
    (cond (begins g) (set (set m (base + 16 + count) (v % 256)) (base + 32 + count) 1) (set m (base + 16 + count) (v % 256)))
    m

abbrev pub with_figures : List ℕ → ℕ → ℕ → ℕ → ℕ → ℕ → List ℕ
with_figures m base left count point unit =
    set (set (set (set m base (left % 256)) (base + 1) (count % 256)) (base + 2) (point % 256)) (base + 3) unit

-- the symbols left of `^` and the groups so far
abbrev pub before_seen : Shape → List ℕ
before_seen (before α) = α
before_seen (at_caret α) = α
before_seen (in_group α γs Y γ) = α
before_seen (at_cut α γs) = α
before_seen misplaced = []

abbrev pub groups_seen : Shape → List (List ℕ)
groups_seen (before α) = []
groups_seen (at_caret α) = []
groups_seen (in_group α γs Y γ) = γs ++ (Y ∷ γ) ∷ []
groups_seen (at_cut α γs) = γs
groups_seen misplaced = []

abbrev pub starts_seen : Shape → List ℕ
starts_seen h = replicate (length (before_seen h)) 0 ++ group_starts (groups_seen h)

abbrev pub Placed : Shape → Type 0
Placed (before α) = Unit {0}
Placed (at_caret α) = Unit {0}
Placed (in_group α γs Y γ) = Unit {0}
Placed (at_cut α γs) = Unit {0}
Placed misplaced = ⊥

-- memory that was m holds these parts in its row at `base`, unless the line is to be refused for them
abbrev pub Kept : ℕ → ℕ → List Part → List ℕ → ℕ → List ℕ → Type 0
Kept t n ps m base m' =
    Placed (shape_of ps) → any (undeclared t n) (symbols_of ps) ≡ false → length (symbols_of ps) ≤ 15
    → m' ≡ sets m base (body (symbols_of ps) (starts_seen (shape_of ps)))

abbrev pub FilledBy : ℕ → ℕ → Rest → List ℕ → ℕ → List ℕ → Type 0
FilledBy t n (parts ps next) m base m' = Kept t n ps m base m'
FilledBy t n broken m base m' = Unit {0}

pub record Filled (t n : ℕ) (r : Rest) (m : List ℕ) (base : ℕ) (m' : List ℕ) : Type 0 where
  pub filled : FilledBy t n r m base m'

-- a rule that was read stands in its row
abbrev pub StoredBy : Line → List ℕ → ℕ → List ℕ → Type 0
StoredBy (read r next) m base m' = m' ≡ sets m base (row_of r)
StoredBy (refused x) m base m' = Unit {0}

pub record Stored (l : Line) (m : List ℕ) (base : ℕ) (m' : List ℕ) : Type 0 where
  pub stored : StoredBy l m base m'
