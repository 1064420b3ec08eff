-- The rule for marks, both ways: a right side is taken with these groups exactly when it is written so, each group with a symbol.
use Prim.Native.Nat.{ℕ}
use mathlib.Core.Path.{◌≡◌, refl, sym, ap, ◌∙◌}
use mathlib.Core.List.{List, [], ◌∷◌, ◌++◌, append-nil}
use lib.Seq.{append_snoc}
use Rattle.grammar_rule.specs.Parts.{Part, symbol, caret, cut}
use Rattle.grammar_rule.specs.Marks.{Shape, before, at_caret, in_group, with_part, shape_from, shape_of, on_marked}

-- ---- how marks are written: the symbols left of `^`, `^`, then the groups with a cut between two of them
abbrev pub symbols : List ℕ → List Part
symbols [] = []
symbols (X ∷ α) = symbol X ∷ symbols α

pub record Group : Type 0 where
  pub first : ℕ
  pub others : List ℕ

abbrev pub group_of : Group → List ℕ
group_of γ = γ.first ∷ γ.others

abbrev pub groups_of : List Group → List (List ℕ)
groups_of [] = []
groups_of (γ ∷ γs) = group_of γ ∷ groups_of γs

-- further groups, each after a cut
abbrev pub further : List Group → List Part
further [] = []
further (γ ∷ γs) = cut ∷ (symbols (group_of γ) ++ further γs)

abbrev pub grouped : List Group → List Part
grouped [] = []
grouped (γ ∷ γs) = symbols (group_of γ) ++ further γs

pub written : List ℕ → List Group → List Part
written α γs = symbols α ++ caret ∷ grouped γs

-- ---- what is written is taken
shape_append : (h : Shape) (ps qs : List Part) → shape_from h (ps ++ qs) ≡ shape_from (shape_from h ps) qs
shape_append h [] qs = refl
shape_append h (p ∷ ps) qs = shape_append (with_part h p) ps qs

before-symbols : (β α : List ℕ) → shape_from (before β) (symbols α) ≡ before (β ++ α)
before-symbols β [] = ap before (sym (append-nil β))
before-symbols β (X ∷ α) = before-symbols (β ++ X ∷ []) α ∙ ap before (append_snoc β X α)

group_symbols : (β : List ℕ) (γs : List (List ℕ)) (Y : ℕ) (γ δ : List ℕ) → shape_from (in_group β γs Y γ) (symbols δ) ≡ in_group β γs Y (γ ++ δ)
group_symbols β γs Y γ [] = ap (in_group β γs Y) (sym (append-nil γ))
group_symbols β γs Y γ (X ∷ δ) = group_symbols β γs Y (γ ++ X ∷ []) δ ∙ ap (in_group β γs Y) (append_snoc γ X δ)

further_taken : (β : List ℕ) (γs : List (List ℕ)) (Y : ℕ) (γ : List ℕ) (δs : List Group)
    → (A : Type 0) (f : List ℕ → List (List ℕ) → A) (y : A) → on_marked (shape_from (in_group β γs Y γ) (further δs)) f y ≡ f β (γs ++ (Y ∷ γ) ∷ groups_of δs)
further_taken β γs Y γ [] A f y = refl
further_taken β γs Y γ (δ ∷ δs) A f y =
    ap (λ (h : Shape). on_marked h f y)
    (shape_append (in_group β (γs ++ (Y ∷ γ) ∷ []) δ.first []) (symbols δ.others) (further δs)
    ∙ ap (λ (h : Shape). shape_from h (further δs)) (group_symbols β (γs ++ (Y ∷ γ) ∷ []) δ.first [] δ.others))
    ∙ further_taken β (γs ++ (Y ∷ γ) ∷ []) δ.first δ.others δs A f y
    ∙ ap (f β) (append_snoc γs (Y ∷ γ) (groups_of (δ ∷ δs)))

pub written_taken : (α : List ℕ) (γs : List Group) (A : Type 0) (f : List ℕ → List (List ℕ) → A) (y : A)
    → on_marked (shape_of (written α γs)) f y ≡ f α (groups_of γs)
unfolding written
written_taken α γs A f y = ap (λ (h : Shape). on_marked h f y) start ∙ go γs
  where
    start : shape_of (symbols α ++ caret ∷ grouped γs) ≡ shape_from (at_caret α) (grouped γs)
    start = shape_append (before []) (symbols α) (caret ∷ grouped γs) ∙ ap (λ (h : Shape). shape_from h (caret ∷ grouped γs)) (before-symbols [] α)

    go : (γs : List Group) → on_marked (shape_from (at_caret α) (grouped γs)) f y ≡ f α (groups_of γs)
    go [] = refl
    go (γ ∷ γs) =
        ap (λ (h : Shape). on_marked h f y)
        (shape_append (in_group α [] γ.first []) (symbols γ.others) (further γs)
        ∙ ap (λ (h : Shape). shape_from h (further γs)) (group_symbols α [] γ.first [] γ.others))
        ∙ further_taken α [] γ.first γ.others γs A f y
