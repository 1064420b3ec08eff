-- What the shape of a right side has seen: all its symbols, where nothing is misplaced.
use Prim.Native.Nat.{ℕ}
use mathlib.Core.Path.{◌≡◌, refl, sym, ap, subst, ◌∙◌}
use mathlib.Core.List.{List, [], ◌∷◌, ◌++◌, append-nil, append_assoc}
use mathlib.Core.Bool.{Bool, true, false, cond}
use lib.Dec.{eqb}
use lib.Seq.{append_snoc}
use Rattle.language.specs.Grammar.{concat}
use Rattle.items.proofs.GrowLaws.{group_symbols, last_symbols}
use Rattle.grammar_rule.specs.Parts.{Part, symbol, caret, cut, mark_of, symbols_of}
use Rattle.grammar_rule.specs.Marks.{Shape, before, at_caret, in_group, at_cut, misplaced, with_part, shape_from, shape_of}
use Rattle.grammar_rule.specs.Memory.{Placed, before_seen, groups_seen}

-- ---- one part more
pub symbols_symbol : (ps : List Part) (X : ℕ) → symbols_of (ps ++ symbol X ∷ []) ≡ symbols_of ps ++ X ∷ []
symbols_symbol [] X = refl
symbols_symbol (symbol Y ∷ ps) X = ap (λ (l : List ℕ). Y ∷ l) (symbols_symbol ps X)
symbols_symbol (caret ∷ ps) X = symbols_symbol ps X
symbols_symbol (cut ∷ ps) X = symbols_symbol ps X

symbols_caret : (ps : List Part) → symbols_of (ps ++ caret ∷ []) ≡ symbols_of ps
symbols_caret [] = refl
symbols_caret (symbol Y ∷ ps) = ap (λ (l : List ℕ). Y ∷ l) (symbols_caret ps)
symbols_caret (caret ∷ ps) = symbols_caret ps
symbols_caret (cut ∷ ps) = symbols_caret ps

symbols_cut : (ps : List Part) → symbols_of (ps ++ cut ∷ []) ≡ symbols_of ps
symbols_cut [] = refl
symbols_cut (symbol Y ∷ ps) = ap (λ (l : List ℕ). Y ∷ l) (symbols_cut ps)
symbols_cut (caret ∷ ps) = symbols_cut ps
symbols_cut (cut ∷ ps) = symbols_cut ps

pub symbols_mark : (ps : List Part) (b : ℕ) → symbols_of (ps ++ mark_of b ∷ []) ≡ symbols_of ps
symbols_mark ps b = go (eqb b 94)
  where
    go : (x : Bool) → symbols_of (ps ++ cond x caret cut ∷ []) ≡ symbols_of ps
    go true = symbols_caret ps
    go false = symbols_cut ps

shape_from_lem : (h : Shape) (ps : List Part) (q : Part) → shape_from h (ps ++ q ∷ []) ≡ with_part (shape_from h ps) q
shape_from_lem h [] q = refl
shape_from_lem h (p ∷ ps) q = shape_from_lem (with_part h p) ps q

pub shape_more : (ps : List Part) (q : Part) → shape_of (ps ++ q ∷ []) ≡ with_part (shape_of ps) q
shape_more ps q = shape_from_lem (before []) ps q

-- ---- the symbols
abbrev pub Seen : Shape → List ℕ → Type 0
Seen h α = Placed h → before_seen h ++ concat (groups_seen h) ≡ α

seen_symbol : (h : Shape) (α : List ℕ) (X : ℕ) → Seen h α → Seen (with_part h (symbol X)) (α ++ X ∷ [])
seen_symbol (before β) α X e p = append-nil (β ++ X ∷ []) ∙ ap (λ (l : List ℕ). l ++ X ∷ []) (sym (append-nil β) ∙ e tt)
seen_symbol (at_caret β) α X e p = ap (λ (l : List ℕ). l ++ X ∷ []) (sym (append-nil β) ∙ e tt)
seen_symbol (in_group β γs Y γ) α X e p =
    ap (λ (l : List ℕ). β ++ l) (last_symbols γs (Y ∷ γ) X)
    ∙ sym (append_assoc β (concat (γs ++ (Y ∷ γ) ∷ [])) (X ∷ []))
    ∙ ap (λ (l : List ℕ). l ++ X ∷ []) (e tt)
seen_symbol (at_cut β γs) α X e p =
    ap (λ (l : List ℕ). β ++ l) (group_symbols γs X) ∙ sym (append_assoc β (concat γs) (X ∷ [])) ∙ ap (λ (l : List ℕ). l ++ X ∷ []) (e tt)
seen_symbol misplaced α X e p = absurd p

seen_caret : (h : Shape) (α : List ℕ) → Seen h α → Seen (with_part h caret) α
seen_caret (before β) α e p = e tt
seen_caret (at_caret β) α e p = absurd p
seen_caret (in_group β γs Y γ) α e p = absurd p
seen_caret (at_cut β γs) α e p = absurd p
seen_caret misplaced α e p = absurd p

seen_cut : (h : Shape) (α : List ℕ) → Seen h α → Seen (with_part h cut) α
seen_cut (before β) α e p = absurd p
seen_cut (at_caret β) α e p = absurd p
seen_cut (in_group β γs Y γ) α e p = e tt
seen_cut (at_cut β γs) α e p = absurd p
seen_cut misplaced α e p = absurd p

seen_from : (ps : List Part) (h : Shape) (α : List ℕ) → Seen h α → Seen (shape_from h ps) (α ++ symbols_of ps)
seen_from [] h α e = λ p. e p ∙ sym (append-nil α)
seen_from (symbol X ∷ ps) h α e =
    subst (Seen (shape_from (with_part h (symbol X)) ps)) (append_snoc α X (symbols_of ps)) (seen_from ps (with_part h (symbol X)) (α ++ X ∷ []) (seen_symbol h α X e))
seen_from (caret ∷ ps) h α e = seen_from ps (with_part h caret) α (seen_caret h α e)
seen_from (cut ∷ ps) h α e = seen_from ps (with_part h cut) α (seen_cut h α e)

pub seen : (ps : List Part) → Seen (shape_of ps) (symbols_of ps)
seen ps = seen_from ps (before []) [] (λ p. refl)
