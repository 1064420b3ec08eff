-- The starred sessions of document 01 again, with what could have come where each ends. Document 02, S-1.
use Rattle.std.specs.Prelude.{ℕ, ◌≡◌, List, [], ◌∷◌}
use Rattle.fixpoint.specs.Each.{Each}
use Rattle.expected_trials.specs.Trials.{listed_at}
use Rattle.expected.specs.Expected.{expected}
use Rattle.worked_examples.specs.Books.{book, Books, g1, g1_cut, d}

-- some tokens, the place where their session ends, and the codes that could have come there
pub data Fitting : Type 0 where
  after : List ℕ → ℕ → List ℕ → Fitting

-- abbc and abbbcc are whole; abc is wrong at 2, abb at 3, no token at 0
abbrev pub fitting_g1 : List Fitting
fitting_g1 =
    after (1 ∷ 2 ∷ 2 ∷ 3 ∷ []) 4 (0 ∷ 3 ∷ []) ∷
    after (1 ∷ 2 ∷ 2 ∷ 2 ∷ 3 ∷ 3 ∷ []) 6 (0 ∷ 3 ∷ []) ∷
    after (1 ∷ 2 ∷ 3 ∷ []) 2 (2 ∷ []) ∷
    after (1 ∷ 2 ∷ 2 ∷ []) 3 (2 ∷ 3 ∷ []) ∷
    after [] 0 (1 ∷ []) ∷
    []

-- with a cut rule 1: the list is the grammar's, not the table's
abbrev pub fitting_g1_cut : List Fitting
fitting_g1_cut = after (1 ∷ 2 ∷ 2 ∷ 3 ∷ []) 4 (0 ∷ 3 ∷ []) ∷ []

-- 1423, 123123 and no token are whole; 1123 is wrong at 1
abbrev pub fitting_d : List Fitting
fitting_d =
    after (1 ∷ 4 ∷ 2 ∷ 3 ∷ []) 4 (0 ∷ 1 ∷ []) ∷
    after (1 ∷ 2 ∷ 3 ∷ 1 ∷ 2 ∷ 3 ∷ []) 6 (0 ∷ 1 ∷ []) ∷
    after [] 0 (0 ∷ 1 ∷ []) ∷
    after (1 ∷ 1 ∷ 2 ∷ 3 ∷ []) 1 (2 ∷ 4 ∷ []) ∷
    []

-- lent 20 places of stack and of listing, and 64 of list
abbrev pub Lists : Books → Fitting → Type 0
Lists b (after w p codes) = expected (book b.grammar) (book b.tables) w 20 20 64 ≡ listed_at 64 p codes

pub record Listed (b : Books) (x : Fitting) : Type 0 where
  pub lists : Lists b x

abbrev pub Expected : Type 0
Expected = Each (Listed g1) fitting_g1 × Each (Listed g1_cut) fitting_g1_cut × Each (Listed d) fitting_d
