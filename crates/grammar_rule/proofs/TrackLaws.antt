-- How the progress of a right side goes on with each part.
use Prim.Native.Nat.{ℕ}
use mathlib.Core.Path.{◌≡◌, refl, sym, ap, subst, ◌∙◌}
use mathlib.Core.List.{List, [], ◌∷◌, ◌++◌, append-nil}
use mathlib.Core.Bool.{Bool, true, false, cond, ◌||◌}
use native.Mathlib.Omega.{arith}
use lib.Dec.{eqb}
use lib.ListN.{length, length-append}
use Rattle.language.specs.Tests.{any}
use Rattle.grammar_rule.specs.declared.Stage.{Stage}
use Rattle.grammar_rule.specs.declared.Progress.{Progress}
use Rattle.grammar_rule.specs.Parts.{Part, symbol, caret, cut, mark_of, symbols_of}
use Rattle.grammar_rule.specs.Marks.{Shape, before, at_caret, in_group, at_cut, misplaced, with_part, shape_of}
use Rattle.grammar_rule.specs.RuleLine.{large, undeclared}
use Rattle.grammar_rule.specs.Progress.{Tracks, Pointed, stage_of, after_symbol, after_caret, after_cut, after_mark, point_at, add_symbol, add_mark}
use Rattle.grammar_rule.proofs.SeenLaws.{Seen, seen, symbols_symbol, symbols_mark, shape_more}

or_false : (b : Bool) → b || false ≡ b
or_false true = refl
or_false false = refl

or_assoc : (a b c d : Bool) → d ≡ b || c → a || d ≡ (a || b) || c
or_assoc true b c d e = refl
or_assoc false b c d e = e

pub any_more : (f : ℕ → Bool) (α : List ℕ) (X : ℕ) → any f (α ++ X ∷ []) ≡ any f α || f X
any_more f [] X = or_false (f X)
any_more f (Y ∷ α) X = or_assoc (f Y) (any f α) (f X) (any f (α ++ X ∷ [])) (any_more f α X)

-- ---- the progress
stage_symbol : (h : Shape) (X : ℕ) → after_symbol (stage_of h) ≡ stage_of (with_part h (symbol X))
stage_symbol (before α) X = refl
stage_symbol (at_caret α) X = refl
stage_symbol (in_group α γs Y γ) X = refl
stage_symbol (at_cut α γs) X = refl
stage_symbol misplaced X = refl

point_symbol : (h : Shape) (X x : ℕ) → Pointed h x → Pointed (with_part h (symbol X)) x
point_symbol (before α) X x e = tt
point_symbol (at_caret α) X x e = e
point_symbol (in_group α γs Y γ) X x e = e
point_symbol (at_cut α γs) X x e = e
point_symbol misplaced X x e = tt

pub tracks_none : (t n : ℕ) → Tracks t n [] (record { count = 0; point = 0; stage = stage_of (before []); over = false; undeclared = false })
tracks_none t n = record { count_is = refl; point_is = tt; stage_is = refl; over_is = refl; undeclared_is = refl }

pub tracks_symbol : (t n : ℕ) (ps : List Part) (p : Progress) (v : ℕ) → Tracks t n ps p → Tracks t n (ps ++ symbol v ∷ []) (add_symbol t n p v)
unfolding add_symbol
tracks_symbol t n ps p v k =
    record {
      count_is = rw (symbols_symbol ps v) (simp length-append (omega (arith, k.count_is)));
      point_is = rw (shape_more ps (symbol v)) (point_symbol (shape_of ps) v p.point k.point_is);
      stage_is = rw (shape_more ps (symbol v)) (ap after_symbol k.stage_is ∙ stage_symbol (shape_of ps) v);
      over_is = rw (symbols_symbol ps v, any_more large (symbols_of ps) v) (ap (λ (b : Bool). b || large v) k.over_is);
      undeclared_is = rw (symbols_symbol ps v, any_more (undeclared t n) (symbols_of ps) v) (ap (λ (b : Bool). b || undeclared t n v) k.undeclared_is);
    }

stage_mark : (h : Shape) (b : ℕ) → after_mark (stage_of h) b ≡ stage_of (with_part h (mark_of b))
stage_mark h b = go (eqb b 94) h
  where
    go : (x : Bool) (h : Shape) → cond x (after_caret (stage_of h)) (after_cut (stage_of h)) ≡ stage_of (with_part h (cond x caret cut))
    go true (before α) = refl
    go true (at_caret α) = refl
    go true (in_group α γs Y γ) = refl
    go true (at_cut α γs) = refl
    go true misplaced = refl
    go false (before α) = refl
    go false (at_caret α) = refl
    go false (in_group α γs Y γ) = refl
    go false (at_cut α γs) = refl
    go false misplaced = refl

-- where no `^` has come, all symbols stand left of it
abbrev Counted : Shape → ℕ → Type 0
Counted (before α) k = k ≡ length α
Counted (at_caret α) k = Unit {0}
Counted (in_group α γs Y γ) k = Unit {0}
Counted (at_cut α γs) k = Unit {0}
Counted misplaced k = Unit {0}

counted : (h : Shape) (α : List ℕ) → Seen h α → Counted h (length α)
counted (before β) α e = ap length (sym (e tt) ∙ append-nil β)
counted (at_caret β) α e = tt
counted (in_group β γs Y γ) α e = tt
counted (at_cut β γs) α e = tt
counted misplaced α e = tt

point_mark : (h : Shape) (b x k : ℕ) → Pointed h x → Counted h k → Pointed (with_part h (mark_of b)) (point_at b k x)
point_mark h b x k e f = go (eqb b 94) h e f
  where
    go : (c : Bool) (h : Shape) → Pointed h x → Counted h k → Pointed (with_part h (cond c caret cut)) (cond c k x)
    go true (before α) e f = f
    go true (at_caret α) e f = tt
    go true (in_group α γs Y γ) e f = tt
    go true (at_cut α γs) e f = tt
    go true misplaced e f = tt
    go false (before α) e f = tt
    go false (at_caret α) e f = tt
    go false (in_group α γs Y γ) e f = e
    go false (at_cut α γs) e f = tt
    go false misplaced e f = tt

pub tracks_mark : (t n : ℕ) (ps : List Part) (p : Progress) (b : ℕ) → Tracks t n ps p → Tracks t n (ps ++ mark_of b ∷ []) (add_mark p b)
unfolding add_mark
tracks_mark t n ps p b k =
    let c : Counted (shape_of ps) p.count = subst (Counted (shape_of ps)) (sym k.count_is) (counted (shape_of ps) (symbols_of ps) (seen ps)) in
    record {
      count_is = rw (symbols_mark ps b) k.count_is;
      point_is = rw (shape_more ps (mark_of b)) (point_mark (shape_of ps) b p.point p.count k.point_is c);
      stage_is = rw (shape_more ps (mark_of b)) (ap (λ (g : Stage). after_mark g b) k.stage_is ∙ stage_mark (shape_of ps) b);
      over_is = rw (symbols_mark ps b) k.over_is;
      undeclared_is = rw (symbols_mark ps b) k.undeclared_is;
    }
