-- Loads of document 01's books. Document 02, S-4.
use Rattle.std.specs.Prelude.{ℕ, ◌≡◌, List, [], ◌∷◌}
use Rattle.fixpoint.specs.Each.{Each}
use Rattle.generator.specs.Generated.{written_as, generated}
use Rattle.worked_examples.specs.Books.{book, Books, g1, g1_cut, d}

-- a seed and a depth, the tokens and the listing
pub data Load : Type 0 where
  from : ℕ → ℕ → List ℕ → List ℕ → Load

abbrev pub loads_g1 : List Load
loads_g1 =
    from 167 15 (1 ∷ 2 ∷ 2 ∷ 2 ∷ 2 ∷ 2 ∷ 2 ∷ 2 ∷ 2 ∷ 2 ∷ 2 ∷ 2 ∷ 2 ∷ 3 ∷ 3 ∷ [])
    (3 ∷ 2 ∷ 2 ∷ 2 ∷ 2 ∷ 2 ∷ 2 ∷ 2 ∷ 2 ∷ 2 ∷ 2 ∷ 1 ∷ 5 ∷ 4 ∷ []) ∷
    []

-- with a cut rule 1: the same tokens, listed otherwise
abbrev pub loads_g1_cut : List Load
loads_g1_cut =
    from 167 15 (1 ∷ 2 ∷ 2 ∷ 2 ∷ 2 ∷ 2 ∷ 2 ∷ 2 ∷ 2 ∷ 2 ∷ 2 ∷ 2 ∷ 2 ∷ 3 ∷ 3 ∷ [])
    (1 ∷ 3 ∷ 2 ∷ 2 ∷ 2 ∷ 2 ∷ 2 ∷ 2 ∷ 2 ∷ 2 ∷ 2 ∷ 2 ∷ 5 ∷ 4 ∷ []) ∷
    []

abbrev pub loads_d : List Load
loads_d =
    from 1 0 []
    (1 ∷ []) ∷
    from 12 15 (1 ∷ 2 ∷ 3 ∷ 1 ∷ 4 ∷ 4 ∷ 4 ∷ 4 ∷ 4 ∷ 4 ∷ 4 ∷ 2 ∷ 3 ∷ 1 ∷ 4 ∷ 4 ∷ 2 ∷ 3 ∷ 1 ∷ 4 ∷ 2 ∷ 3 ∷ 1 ∷ 2 ∷ 3 ∷ 1 ∷ 4 ∷ 2 ∷ 3 ∷ 1 ∷ 2 ∷ 3 ∷ [])
    (1 ∷ 2 ∷ 3 ∷ 4 ∷ 2 ∷ 3 ∷ 4 ∷ 5 ∷ 5 ∷ 5 ∷ 5 ∷ 5 ∷ 5 ∷ 5 ∷ 2 ∷ 3 ∷ 4 ∷ 5 ∷ 5 ∷ 2 ∷ 3 ∷ 4 ∷ 5 ∷ 2 ∷ 3 ∷ 4 ∷ 2 ∷ 3 ∷ 4 ∷ 5 ∷ 2 ∷ 3 ∷ 4 ∷ []) ∷
    []

-- lent 40 places of tokens and of listing
abbrev pub Makes : Books → Load → Type 0
Makes b (from seed depth w l) = generated 40 40 (book b.grammar) seed depth ≡ written_as 40 40 w l

pub record Made (b : Books) (x : Load) : Type 0 where
  pub makes : Makes b x

abbrev pub Loads : Type 0
Loads = Each (Made g1) loads_g1 × Each (Made g1_cut) loads_g1_cut × Each (Made d) loads_d
