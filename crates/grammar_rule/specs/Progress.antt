-- How the code keeps count of a right side while it reads it.
use Rattle.std.specs.Prelude.{ℕ, ◌+◌, ◌≡◌, List, Bool, true, false, cond, not, ◌||◌, ltb, eqb, length}
use Rattle.language.specs.Tests.{any}
use Rattle.symbol.specs.Symbol.{is_nonterminal}
use Rattle.reply.specs.declared.Kind.{Kind}
use Rattle.reply.specs.declared.Kind.TheVariants as kind
use Rattle.grammar_rule.specs.declared.Stage.{Stage}
use Rattle.grammar_rule.specs.declared.Stage.TheVariants as stage
use Rattle.grammar_rule.specs.declared.Progress.{Progress}
use Rattle.grammar_rule.specs.declared.Parts.{Parts}
use Rattle.grammar_rule.specs.declared.Parts.TheVariants as out
use Rattle.grammar_rule.specs.declared.RuleLine.{RuleLine}
use Rattle.grammar_rule.specs.declared.RuleLine.TheVariants as line
use Rattle.grammar_rule.specs.Parts.{Part, Rest, parts, broken, symbols_of}
use Rattle.grammar_rule.specs.Marks.{Shape, before, at_caret, in_group, at_cut, misplaced, shape_of}
use Rattle.grammar_rule.specs.RuleLine.{Line, read, refused, large, undeclared}

abbrev pub stage_of : Shape → Stage
stage_of (before α) = stage.Before
stage_of (at_caret α) = stage.AtCaret
stage_of (in_group α γs Y γ) = stage.InGroup
stage_of (at_cut α γs) = stage.AtCut
stage_of misplaced = stage.Misplaced

-- x symbols stand left of `^`, where it has come and all is in its place
abbrev pub Pointed : Shape → ℕ → Type 0
Pointed (before α) x = Unit {0}
Pointed (at_caret α) x = x ≡ length α
Pointed (in_group α γs Y γ) x = x ≡ length α
Pointed (at_cut α γs) x = x ≡ length α
Pointed misplaced x = Unit {0}

-- p is the progress after these parts
pub record Tracks (t n : ℕ) (ps : List Part) (p : Progress) : Type 0 where
  pub count_is : p.count ≡ length (symbols_of ps)
  pub point_is : Pointed (shape_of ps) p.point
  pub stage_is : p.stage ≡ stage_of (shape_of ps)
  pub over_is : p.over ≡ any large (symbols_of ps)
  pub undeclared_is : p.undeclared ≡ any (undeclared t n) (symbols_of ps)

-- what the reader of a right side answers
abbrev pub Answers : ℕ → ℕ → Rest → Parts → Type 0
Answers t n (parts ps next) (out.Complete p x) = Tracks t n ps p × (x ≡ next)
Answers t n (parts ps next) out.Broken = ⊥
Answers t n broken (out.Complete p x) = ⊥
Answers t n broken out.Broken = Unit {0}

-- one symbol more
abbrev pub after_symbol : Stage → Stage
after_symbol stage.Before = stage.Before
after_symbol stage.AtCaret = stage.InGroup
after_symbol stage.InGroup = stage.InGroup
after_symbol stage.AtCut = stage.InGroup
after_symbol stage.Misplaced = stage.Misplaced

abbrev pub over_with : Bool → ℕ → Bool
over_with over v = over || large v

abbrev pub undeclared_with : Bool → ℕ → ℕ → ℕ → Bool
undeclared_with seen t n v = seen || undeclared t n v

unfoldable pub add_symbol : ℕ → ℕ → Progress → ℕ → Progress
add_symbol t n p v =
    record {
      count = p.count + 1;
      point = p.point;
      stage = after_symbol p.stage;
      over = over_with p.over v;
      undeclared = undeclared_with p.undeclared t n v;
    }

-- one mark more
abbrev pub after_caret : Stage → Stage
after_caret stage.Before = stage.AtCaret
after_caret stage.AtCaret = stage.Misplaced
after_caret stage.InGroup = stage.Misplaced
after_caret stage.AtCut = stage.Misplaced
after_caret stage.Misplaced = stage.Misplaced

abbrev pub after_cut : Stage → Stage
after_cut stage.Before = stage.Misplaced
after_cut stage.AtCaret = stage.Misplaced
after_cut stage.InGroup = stage.AtCut
after_cut stage.AtCut = stage.Misplaced
after_cut stage.Misplaced = stage.Misplaced

abbrev pub after_mark : Stage → ℕ → Stage
after_mark g b = cond (eqb b 94) (after_caret g) (after_cut g)

abbrev pub point_at : ℕ → ℕ → ℕ → ℕ
point_at b count point = cond (eqb b 94) count point

unfoldable pub add_mark : Progress → ℕ → Progress
add_mark p b =
    record {
      count = p.count;
      point = point_at b p.count p.point;
      stage = after_mark p.stage b;
      over = p.over;
      undeclared = p.undeclared;
    }

-- the line, by the progress at its end
abbrev pub placed : Stage → Bool
placed stage.Before = false
placed stage.AtCaret = true
placed stage.InGroup = true
placed stage.AtCut = false
placed stage.Misplaced = false

abbrev pub refused_line : ℕ → Kind → RuleLine
refused_line at k = line.Refused (record { kind = k; place = at })

unfoldable pub judged : ℕ → ℕ → ℕ → Progress → ℕ → RuleLine
judged at n left p next =
    cond (large left || (p.over || ltb 15 p.count)) (refused_line at kind.LimitExceeded)
    (cond (not (is_nonterminal n left) || p.undeclared) (refused_line at kind.Undeclared)
    (cond (placed p.stage) (line.Read next) (refused_line at kind.MisplacedMark)))

-- a line without its rule, which is in memory
abbrev pub line_of : Line → RuleLine
line_of (read r next) = line.Read next
line_of (refused x) = line.Refused x
