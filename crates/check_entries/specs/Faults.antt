-- Reply 7 at place 0, by its causes. Document 01, 'Construction': "the goal alone, then every other distinct group once. Entry line 1 is the goal."
use Rattle.std.specs.Prelude.{ℕ, ◌+◌, ◌≤◌, ◌<◌, ◌≡◌, List, [], ◌∷◌, ◌++◌, length}
use Rattle.std.proofs.Math.Option.{some}
use Rattle.language.specs.Grammar.{Grammar, Rule, rule_at, concat}
use Rattle.leftcorner.specs.Table.{Table}
use Rattle.leftcorner.specs.Construction.{EntryAt, Wanted}
use Rattle.check_entries.specs.declared.EntryFault.{EntryFault}

-- a group of rule i has no entry; it is the part of the rule's string from `from` up to `to`
pub record BareGroup (g : Grammar) (t : Table) (i from to : ℕ) : Type 0 where
  pub rule : Rule
  pub is_rule : rule_at g i ≡ some rule
  pub earlier : List (List ℕ)
  pub group : List ℕ
  pub later : List (List ℕ)
  pub split : rule.groups ≡ earlier ++ group ∷ later
  pub begins : from ≡ length rule.before + length (concat earlier)
  pub ends : to ≡ from + length group
  pub none : (k s : ℕ) → EntryAt g t k s group → ⊥

-- entry k, not the first, is neither the goal nor a group
pub record UnwantedEntry (g : Grammar) (t : Table) (k : ℕ) : Type 0 where
  pub not_first : 2 ≤ k
  pub state : ℕ
  pub string : List ℕ
  pub is_entry : EntryAt g t k state string
  pub unwanted : Wanted g string → ⊥

-- what is named is so; where nothing is named, all is `Fine`
abbrev pub NamedIs : Grammar → Table → Type 0 → EntryFault → Type 0
NamedIs g t Fine EntryFault.NotGoal = (s : ℕ) → EntryAt g t 1 s (g.goal ∷ []) → ⊥
NamedIs g t Fine (EntryFault.Bare i from to) = BareGroup g t i from to
NamedIs g t Fine (EntryFault.Unwanted k) = UnwantedEntry g t k
NamedIs g t Fine EntryFault.Nothing = Fine

pub record EntryFaultIs (g : Grammar) (t : Table) (Fine : Type 0) (x : EntryFault) : Type 0 where
  pub is : NamedIs g t Fine x

-- what is named can be read, whatever the memory holds
pub record InRange (rules strings : ℕ) (x : EntryFault) : Type 0 where
  pub group : (i from to : ℕ) → x ≡ EntryFault.Bare i from to → (1 ≤ i) × (i ≤ rules) × (from < to) × (to ≤ 15)
  pub entry : (k : ℕ) → x ≡ EntryFault.Unwanted k → (2 ≤ k) × (k ≤ strings)
