-- A rule line from its fields: the answer, and the row that the rule leaves in memory.
use Prim.Native.Nat.{ℕ, ◌+◌, ◌%◌, ◌≤◌, ◌<◌}
use mathlib.Core.Path.{◌≡◌, refl, sym, ap, subst, ◌∙◌}
use mathlib.Core.List.{List, [], ◌∷◌, ◌++◌}
use mathlib.Core.Bool.{Bool, true, false, cond, not, ◌||◌}
use native.Mathlib.Omega.{arith}
use borrow.Author.Tests.{ltb-false, not-false}
use types.Run.{OneOf}
use denote.Enum.Declared.{tag_of}
use lib.Dec.{ltb, eqb}
use lib.ListN.{length, replicate, length-append}
use lib.Seq.{sets}
use Rattle.language.specs.Grammar.{concat}
use Rattle.language.specs.Listing.{unit_of}
use Rattle.language.specs.Tests.{any}
use Rattle.range.proofs.RangeLaws.{within-true}
use Rattle.symbol.specs.Symbol.{is_nonterminal}
use Rattle.reply.specs.declared.Kind.TheVariants as kind
use Rattle.reply.specs.declared.Refusal.{Refusal}
use Rattle.text.specs.declared.Cursor.{Cursor}
use Rattle.text.specs.declared.Field.{Field}
use Rattle.text.specs.declared.Field.TheVariants as field
use Rattle.text.specs.Field.{field_at}
use Rattle.text.specs.contracts.Field.{the_type}
use Rattle.text.proofs.ElseLaws.{else_number, else_letter}
use Rattle.items.specs.Layout.{body, row, group_starts}
use Rattle.items.proofs.BuildLaws.{building, build_end}
use Rattle.grammar_rule.specs.declared.Progress.{Progress}
use Rattle.grammar_rule.specs.declared.Parts.{Parts}
use Rattle.grammar_rule.specs.declared.Parts.TheVariants as out
use Rattle.grammar_rule.specs.declared.RuleLine.{RuleLine}
use Rattle.grammar_rule.specs.declared.RuleLine.TheVariants as line
use Rattle.grammar_rule.specs.Parts.{Rest, parts, broken, parts_at, symbols_of}
use Rattle.grammar_rule.specs.Marks.{Shape, before, at_caret, in_group, at_cut, misplaced, shape_of, on_marked}
use Rattle.grammar_rule.specs.RuleLine.{Line, read, refused, refused_at, large, undeclared, over_limits, some_undeclared, rule_of, is_rule, rule_at}
use Rattle.grammar_rule.specs.Progress.{Pointed, Answers, stage_of, placed, judged, refused_line, line_of}
use Rattle.grammar_rule.specs.Memory.{with_figures, starts_seen, Placed, Filled, StoredBy, Stored}
use Rattle.grammar_rule.proofs.SeenLaws.{Seen, seen}
use Rattle.grammar_rule.proofs.KeepLaws.{either_false}

-- ---- the fields in front
module _ (s : List ℕ) (t n at : ℕ) where
  pub no_letter : {r : Field} → r ≡ field_at s (record { at = at; ended = false }) → OneOf (0 ∷ 1 ∷ 3 ∷ []) (tag_of the_type r)
      → rule_at s t n at ≡ refused_at at kind.Malformed
  unfolding rule_at
  no_letter e o = else_letter {A = Line} e o _ _

  module _ (k : ℕ) (c : Cursor) (e : field_at s (record { at = at; ended = false }) ≡ field.Letter k c) where
    pub wrong_letter : is_rule k ≡ false → rule_at s t n at ≡ refused_at at kind.Malformed
    unfolding rule_at
    wrong_letter h = simp (e, h)

    module _ (h : is_rule k ≡ true) where
      pub no_left : {r : Field} → r ≡ field_at s c → OneOf (1 ∷ 2 ∷ 3 ∷ []) (tag_of the_type r) → rule_at s t n at ≡ refused_at at kind.Malformed
      unfolding rule_at
      no_left f o = rw (e, h) (else_number {A = Line} f o _ _)

      pub with_left : (left : ℕ) (d : Cursor) → field_at s c ≡ field.Number left d → rule_at s t n at ≡ rule_of at t n (eqb k 85) left (parts_at s d)
      unfolding rule_at
      with_left left d f = simp (e, h, f)

-- ---- the answer
module _ (at t n : ℕ) (unit : Bool) (left : ℕ) where
  pub line_broken : (r : Rest) {o : Parts} → Answers t n r o → o ≡ out.Broken → rule_of at t n unit left r ≡ refused_at at kind.Malformed
  unfolding rule_of
  line_broken r {o} a e = go r (subst (Answers t n r) e a)
    where
      go : (r : Rest) → Answers t n r out.Broken → rule_of at t n unit left r ≡ refused_at at kind.Malformed
      go (parts ps next) a = absurd a
      go broken a = refl

  pub line_judged : (r : Rest) (p : Progress) (end : ℕ) → Answers t n r (out.Complete p end) → line_of (rule_of at t n unit left r) ≡ judged at n left p end
  unfolding rule_of judged over_limits some_undeclared
  line_judged broken p end a = absurd a
  line_judged (parts ps next) p end a =
      let k = a.0 in
      rw (k.count_is, k.over_is, k.undeclared_is, k.stage_is, a.1)
      (go (large left || (any large (symbols_of ps) || ltb 15 (length (symbols_of ps)))) (not (is_nonterminal n left) || any (undeclared t n) (symbols_of ps)) (shape_of ps))
    where
      go : (a b : Bool) (h : Shape)
          → line_of (cond a (refused_at at kind.LimitExceeded) (cond b (refused_at at kind.Undeclared)
          (on_marked h (λ α γs. read (record { unit = unit; left = left; before = α; groups = γs }) next) (refused_at at kind.MisplacedMark))))
          ≡ cond a (refused_line at kind.LimitExceeded) (cond b (refused_line at kind.Undeclared)
          (cond (placed (stage_of h)) (line.Read next) (refused_line at kind.MisplacedMark)))
      go true b h = refl
      go false true h = refl
      go false false (before α) = refl
      go false false (at_caret α) = refl
      go false false (in_group α γs Y γ) = refl
      go false false (at_cut α γs) = refl
      go false false misplaced = refl

-- ---- what a line that is not refused keeps to
pub few : (left : ℕ) (α : List ℕ) → over_limits left α ≡ false → length α ≤ 15
unfolding over_limits
few left α e = ltb-false 15 (length α) (either_false (any large α) (ltb 15 (length α)) (either_false (large left) (any large α || ltb 15 (length α)) e).1).1

module _ (t n left : ℕ) (α : List ℕ) (e : some_undeclared t n left α ≡ false) where
  pub left_declared : is_nonterminal n left ≡ true
  unfolding some_undeclared
  left_declared = not-false (is_nonterminal n left) (either_false (not (is_nonterminal n left)) (any (undeclared t n) α) e).0

  pub all_declared_lem : any (undeclared t n) α ≡ false
  unfolding some_undeclared
  all_declared_lem = (either_false (not (is_nonterminal n left)) (any (undeclared t n) α) e).1

-- ---- the row
row_done : (m₀ : List ℕ) (base : ℕ) (m α β : List ℕ) (γs : List (List ℕ)) (left count point unit : ℕ)
    → β ++ concat γs ≡ α → m ≡ building m₀ base α (replicate (length β) 0 ++ group_starts γs)
    → left < 256 → length α ≤ 15 → count ≡ length α → point ≡ length β
    → with_figures m base left count point unit ≡ sets m₀ base (row left (length β) unit (β ++ concat γs) (replicate (length β) 0 ++ group_starts γs))
row_done m₀ base m α β γs left count point unit e q hl ha hc hp =
    let lb : length β ≤ 15 = omega (arith, length-append β (concat γs), ap length e) in
    let b1 : left % 256 ≡ left = omega arith in
    let b2 : count % 256 ≡ length α = omega arith in
    let b3 : point % 256 ≡ length β = omega arith in
    rw (b1, b2, b3, q, e) (build_end m₀ base α (replicate (length β) 0 ++ group_starts γs) left (length β) unit)

module _ (m₀ : List ℕ) (base : ℕ) where
  -- a line that is refused leaves its row to be cleared
  pub refused_stored : (l : Line) (x : Refusal) (m : List ℕ) → line_of l ≡ line.Refused x → Stored l m₀ base m
  refused_stored (read r next) x m e = let z : ◌≡◌ {A = ℕ} 0 1 = cc in absurd (omega arith)
  refused_stored (refused y) x m e = record { stored = tt }

  pub rule_stored : (at t n : ℕ) (unit : Bool) (left : ℕ) → n ≤ 64 → (r : Rest) (p : Progress) (end : ℕ) (m : List ℕ)
      → Answers t n r (out.Complete p end) → Filled t n r m₀ base m
      → Stored (rule_of at t n unit left r) m₀ base (with_figures m base left p.count p.point (unit_of unit))
  unfolding rule_of building
  rule_stored at t n unit left hn broken p end m a f = absurd a
  rule_stored at t n unit left hn (parts ps next) p end m a f =
      record { stored = go (over_limits left (symbols_of ps)) (some_undeclared t n left (symbols_of ps)) (shape_of ps) refl refl (seen ps) a.0.point_is f.filled }
    where
      α : List ℕ
      α = symbols_of ps

      done : (β : List ℕ) (γs : List (List ℕ)) → over_limits left α ≡ false → some_undeclared t n left α ≡ false → β ++ concat γs ≡ α → p.point ≡ length β
          → m ≡ sets m₀ base (body α (replicate (length β) 0 ++ group_starts γs))
          → with_figures m base left p.count p.point (unit_of unit) ≡ sets m₀ base (row left (length β) (unit_of unit) (β ++ concat γs) (replicate (length β) 0 ++ group_starts γs))
      done β γs o x e q k = row_done m₀ base m α β γs left p.count p.point (unit_of unit) e k (omega (arith, (within-true 64 left (63 + n) (left_declared t n left α x)).1)) (few left α o) a.0.count_is q

      go : (a b : Bool) (h : Shape) → over_limits left α ≡ a → some_undeclared t n left α ≡ b → Seen h α → Pointed h p.point
          → (Placed h → any (undeclared t n) α ≡ false → length α ≤ 15 → m ≡ sets m₀ base (body α (starts_seen h)))
          → StoredBy (cond a (refused_at at kind.LimitExceeded) (cond b (refused_at at kind.Undeclared)
          (on_marked h (λ α γs. read (record { unit = unit; left = left; before = α; groups = γs }) next) (refused_at at kind.MisplacedMark))))
          m₀ base (with_figures m base left p.count p.point (unit_of unit))
      go true b h o x e q k = tt
      go false true h o x e q k = tt
      go false false (before β) o x e q k = tt
      go false false (at_caret β) o x e q k = done β [] o x (e tt) q (k tt (all_declared_lem t n left α x) (few left α o))
      go false false (in_group β γs Y γ) o x e q k = done β (γs ++ (Y ∷ γ) ∷ []) o x (e tt) q (k tt (all_declared_lem t n left α x) (few left α o))
      go false false (at_cut β γs) o x e q k = tt
      go false false misplaced o x e q k = tt

  -- ---- both together
  pub told : {l : Line} {x : Refusal} {r : RuleLine} {m : List ℕ} → l ≡ refused x → r ≡ line.Refused x → (r ≡ line_of l) × Stored l m₀ base m
  told {l} {x} {r} {m} e q = (q ∙ sym (ap line_of e), refused_stored l x m (ap line_of e))

  module _ (at t n : ℕ) (unit : Bool) (left : ℕ) (r : Rest) (l : Line) (e : l ≡ rule_of at t n unit left r)
      {o : Parts} (a : Answers t n r o) {p : Progress} {end : ℕ} (w : o ≡ out.Complete p end) {y : RuleLine} (j : y ≡ judged at n left p end) where
    answers : Answers t n r (out.Complete p end)
    answers = subst (Answers t n r) w a

    line_is : line_of l ≡ y
    line_is = ap line_of e ∙ line_judged at t n unit left r p end answers ∙ sym j

    pub told_refused : {x : Refusal} {m : List ℕ} → y ≡ line.Refused x → (line.Refused x ≡ line_of l) × Stored l m₀ base m
    told_refused {x} {m} q = (sym (line_is ∙ q), refused_stored l x m (line_is ∙ q))

    pub told_read : n ≤ 64 → {m m' : List ℕ} {u next : ℕ} → Filled t n r m₀ base m → u ≡ unit_of unit → m' ≡ with_figures m base left p.count p.point u
        → y ≡ line.Read next → (line.Read next ≡ line_of l) × Stored l m₀ base m'
    told_read hn {m} {m'} {u} {next} f v w q =
        (sym (line_is ∙ q), rw (e, w, v) (rule_stored at t n unit left hn r p end m answers f))
