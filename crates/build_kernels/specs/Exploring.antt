-- The states that are found while those below q have been left. Document 01, 'Construction': "entries first, the goal then groups in
-- rule order, left to right; then new states in order of discovery, states by number and symbols by code."
use Rattle.std.specs.Prelude.{ℕ, suc, ◌+◌, ◌-◌, ◌≤◌, ◌<◌, ◌≡◌, ◌⊎◌, List, [], length, get_or, take}
use Rattle.language.specs.Grammar.{Grammar}
use Rattle.build_states.specs.Strings.{entry_strings}
use Rattle.build_states.specs.States.{Kernel, move, explore}
use Rattle.build_states.specs.States as lalr
use Rattle.build_states.proofs.StateLaws.{first_kernels}
use Rattle.build_moves.specs.Held.{HoldsGrammar}
use Rattle.build_moves.specs.Moved.{Numbered}
use Rattle.build_kernel_sets.specs.Sets.{sets_in, Bounds, Leads}
use Rattle.build_kernel_sets.specs.Cells.{Cell}

-- memory holds the entries' kernel sets
pub record Seeded (rules strings : ℕ) (sets starts : List ℕ) : Type 0 where
  pub bounds : Bounds sets starts strings strings
  pub sets_are : (g : Grammar) → length g.rules ≡ rules → length (entry_strings g) ≡ strings → sets_in sets starts strings ≡ first_kernels g
  pub numbered : Numbered (rules + strings) (take strings sets)

-- the next states of those below q
abbrev pub NextOf : Grammar → List Kernel → ℕ → List ℕ → List ℕ → List ℕ → Type 0
NextOf g ks q kinds values gotos = (p X : ℕ) → p < q → X < 128 → (v : ℕ) × Cell kinds values gotos (suc p) X v × Leads ks (move g (get_or ks p []) X) v

-- no others
abbrev pub BlankFrom : ℕ → List ℕ → List ℕ → List ℕ → Type 0
BlankFrom q kinds values gotos = (p X : ℕ) → X < 128 → (p ≡ 0) ⊎ (q < p) → Cell kinds values gotos p X 0

module _ (items : List ℕ) (rules strings : ℕ) (sets starts kinds values gotos : List ℕ) (states lines : ℕ) where
  pub record Exploring (q : ℕ) : Type 0 where
    pub bounds : Bounds sets starts states lines
    pub few_states : states ≤ 255
    pub few_lines : lines ≤ 1023
    pub numbered : Numbered (rules + strings) (take lines sets)
    pub blank : BlankFrom q kinds values gotos
    pub sets_to : (g : Grammar) → HoldsGrammar items rules strings g → lalr.states g ≡ explore (move g) (255 - q) q (sets_in sets starts states)
    pub next : (g : Grammar) → HoldsGrammar items rules strings g → NextOf g (sets_in sets starts states) q kinds values gotos

  -- all have been left, or a limit is passed
  pub record Explored : Type 0 where
    pub bounds : Bounds sets starts states lines
    pub numbered : Numbered (rules + strings) (take lines sets)
    pub sets_are : (g : Grammar) → HoldsGrammar items rules strings g → lalr.states g ≡ sets_in sets starts states
    pub blank : states ≤ 255 → lines ≤ 1023 → BlankFrom states kinds values gotos
    pub next : states ≤ 255 → lines ≤ 1023 → (g : Grammar) → HoldsGrammar items rules strings g → NextOf g (sets_in sets starts states) states kinds values gotos
