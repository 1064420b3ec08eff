-- The entries that a rule's groups use.
use Rattle.std.specs.Prelude.{ℕ, ◌+◌, ◌*◌, ◌≤◌, ◌<◌, ◌≡◌, ◌⊎◌, List, map, length, get_or}
use Rattle.std.proofs.Math.Option.{some}
use Rattle.language.specs.Grammar.{Grammar, Rule, rule_at}
use Rattle.language.specs.Sentence.{In}
use Rattle.language.specs.WellFormed as language
use Rattle.leftcorner.specs.Table.{Table, entry_from}
use Rattle.leftcorner.specs.Construction.{EntryAt, Wanted}
use Rattle.fixpoint.specs.Flags.{On}
use Rattle.memory.specs.Memory.{HoldsItems}
use Rattle.memory.specs.Fits.{Fits}
use Rattle.memory.specs.Held.{HoldsTable}
use Rattle.check_entries.specs.declared.EntryFault.{EntryFault}
use Rattle.check_entries.specs.Faults.{EntryFaultIs}

-- a grammar and a table whose items stand in memory
pub record HoldsStrings (g : Grammar) (t : Table) (items : List ℕ) (rules strings : ℕ) : Type 0 where
  pub formed : language.WellFormed g
  pub fits : Fits g t
  pub holds_items : HoldsItems items g t
  pub rule_count : length g.rules ≡ rules
  pub entry_count : length t.entries ≡ strings

pub strings_of : {g : Grammar} {t : Table} {items entries kernels lookaheads kinds values gotos : List ℕ} {rules strings lines : ℕ}
    → HoldsTable g t items entries kernels lookaheads kinds values gotos rules strings lines → HoldsStrings g t items rules strings
strings_of h = record { formed = h.formed; fits = h.fits; holds_items = h.holds_items; rule_count = h.rule_count; entry_count = h.entry_count }

-- the entries of a rule's groups, in order
abbrev pub entries_of : Table → Rule → List ℕ
entries_of t r = map (entry_from 1 t.entries) r.groups

-- entry numbers at rule * 16 + group, 0 behind the last group
pub record HoldsUses (uses : List ℕ) (g : Grammar) (t : Table) : Type 0 where
  pub row : (i : ℕ) (r : Rule) → rule_at g i ≡ some r → (n : ℕ) → n < 16 → get_or uses (i * 16 + n) 0 ≡ get_or (entries_of t r) n 0

-- every group of a rule has an entry
abbrev pub AllEntered : Grammar → Table → Rule → Type 0
AllEntered g t r = (γ : List ℕ) → In γ r.groups → (k : ℕ) × (s : ℕ) × EntryAt g t k s γ

-- entry k's string is asked for
pub record WantedEntry (g : Grammar) (t : Table) (k : ℕ) : Type 0 where
  pub state : ℕ
  pub string : List ℕ
  pub is_entry : EntryAt g t k state string
  pub wanted : Wanted g string

-- rule i's groups have entries, which are noted and flagged
pub record RowFilled (g : Grammar) (t : Table) (i : ℕ) (r : Rule) (uses wanted : List ℕ) : Type 0 where
  pub entered : AllEntered g t r
  pub row : (n : ℕ) → n < 16 → get_or uses (i * 16 + n) 0 ≡ get_or (entries_of t r) n 0
  pub flagged : (γ : List ℕ) → In γ r.groups → On wanted (entry_from 1 t.entries γ)

-- a group without an entry, or the row of rule i is filled; the other rows are as they were
pub record FilledRule (g : Grammar) (t : Table) (i : ℕ) (r : Rule) (uses₀ uses wanted₀ wanted : List ℕ) (x : EntryFault) : Type 0 where
  pub fault : EntryFaultIs g t (RowFilled g t i r uses wanted) x
  pub outside : (x : ℕ) → (i * 16 ≤ x → x < i * 16 + 16 → ⊥) → get_or uses x 0 ≡ get_or uses₀ x 0
  pub kept : (k : ℕ) → On wanted₀ k → On wanted k
  pub only : (k : ℕ) → On wanted k → On wanted₀ k ⊎ WantedEntry g t k

-- the rows of the rules below i are filled, the others still 0, and their entries are flagged
pub record Filled (g : Grammar) (t : Table) (i : ℕ) (uses wanted₀ wanted : List ℕ) : Type 0 where
  pub row : (j : ℕ) (r : Rule) → j < i → rule_at g j ≡ some r → (n : ℕ) → n < 16 → get_or uses (j * 16 + n) 0 ≡ get_or (entries_of t r) n 0
  pub rest : (x : ℕ) → i * 16 ≤ x → get_or uses x 0 ≡ 0
  pub entered : (j : ℕ) (r : Rule) → j < i → rule_at g j ≡ some r → AllEntered g t r
  pub flagged : (j : ℕ) (r : Rule) → j < i → rule_at g j ≡ some r → (γ : List ℕ) → In γ r.groups → On wanted (entry_from 1 t.entries γ)
  pub only : (k : ℕ) → On wanted k → On wanted₀ k ⊎ WantedEntry g t k
