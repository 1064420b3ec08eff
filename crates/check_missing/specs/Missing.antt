-- Reply 8 at a state: "a kernel context misses an inclusion", with the line, the code and what asks it.
use Rattle.std.specs.Prelude.{ℕ, zero, ◌+◌, ◌*◌, ◌≤◌, ◌<◌, ◌≡◌, List}
use Rattle.std.proofs.Math.Option.{some}
use Rattle.language.specs.Grammar.{Grammar, at}
use Rattle.language.specs.Sentence.{In}
use Rattle.leftcorner.specs.Table.{Table, K}
use Rattle.leftcorner.specs.Construction.{entry_item, EntryAt}
use Rattle.fixpoint.specs.Flags.{On, Off}
use Rattle.memory.specs.Memory.{state_at}
use Rattle.inclusions.specs.Included.{Includes}
use Rattle.check_lookaheads.specs.Memory.{StateCovers}
use Rattle.check_missing.specs.declared.MissingCode.{MissingCode}

-- line l is of q, and code c is none of its lookaheads
pub record MissingLine (kernels lookaheads : List ℕ) (lines codes q l c : ℕ) : Type 0 where
  pub low : l < lines
  pub state : state_at kernels l ≡ q
  pub code_low : c < codes
  pub off : Off lookaheads (l * 64 + c)

-- what is named can be read, whatever the memory holds
abbrev pub MissingAt : List ℕ → List ℕ → ℕ → ℕ → ℕ → MissingCode → Type 0
MissingAt kernels lookaheads lines codes q (MissingCode.Code l c p) = MissingLine kernels lookaheads lines codes q l c
MissingAt kernels lookaheads lines codes q MissingCode.Nothing = Unit {0}

-- the flag of such a line and code is set in `asked`; nothing where all that are set stand in their lines
pub record MissingIn (kernels lookaheads asked : List ℕ) (lines codes q source : ℕ) (r : MissingCode) : Type 0 where
  pub code : (l c p : ℕ) → r ≡ MissingCode.Code l c p → (p ≡ source) × MissingLine kernels lookaheads lines codes q l c × On asked (l * 64 + c)
  pub none : r ≡ MissingCode.Nothing → StateCovers kernels asked lookaheads lines codes q

-- code c is asked of state q's item i with dot k: "The goal's entry context includes 0.", or by the items of state p
pub data AskedFrom (g : Grammar) (t : Table) (F : List ℕ → ℕ → ℕ → Type 0) : ℕ → ℕ → ℕ → ℕ → ℕ → Type 0 where
  by_goal : {q : ℕ} {γ : List ℕ} → EntryAt g t 1 q γ → AskedFrom g t F zero q (entry_item g t 1) zero zero
  by_state : {p q i k c : ℕ} → 1 ≤ p → Includes g t F p q i k c → AskedFrom g t F p q i k c

-- kernel line l of the table, counted from 0, is of q, and c, which is asked of it, is none of its codes
pub record MissesCode (g : Grammar) (t : Table) (F : List ℕ → ℕ → ℕ → Type 0) (q l c p : ℕ) : Type 0 where
  pub item : ℕ
  pub dot : ℕ
  pub codes : List ℕ
  pub line : at t.kernels l ≡ some (K q item dot codes)
  pub lacks : In c codes → ⊥
  pub asked : AskedFrom g t F p q item dot c

-- what is named is so; where nothing is named, all is `Fine`
abbrev pub NamedIs : (g : Grammar) (t : Table) (F : List ℕ → ℕ → ℕ → Type 0) → Type 0 → ℕ → MissingCode → Type 0
NamedIs g t F Fine q (MissingCode.Code l c p) = MissesCode g t F q l c p
NamedIs g t F Fine q MissingCode.Nothing = Fine

pub record MissingIs (g : Grammar) (t : Table) (F : List ℕ → ℕ → ℕ → Type 0) (Fine : Type 0) (q : ℕ) (r : MissingCode) : Type 0 where
  pub is : NamedIs g t F Fine q r
