-- A machine in memory, as flat arrays of bytes, and the grammar and the automaton that it stands for, whatever it holds.
use Rattle.std.specs.Prelude.{ℕ, zero, suc, ◌+◌, ◌*◌, ◌-◌, ◌%◌, cond, List, [], ◌∷◌, eqb, get_or, replicate}
use Rattle.language.specs.Grammar.{Rule, Grammar}
use Rattle.leftcorner.specs.Machine.{Automaton}
use Rattle.leftcorner.specs.Machine as machine
use Rattle.walk_tables.specs.declared.Cell.{Cell}
use Rattle.walk_tables.specs.declared.Cell.TheVariants.{Shift, Announce, Pop, Empty}
use Rattle.walk_tables.specs.declared.Machine.{Machine}

-- kinds: 1 shift, 2 announce, 3 pop, all others empty
abbrev pub cell_of : ℕ → ℕ → Cell
cell_of kind value = cond (eqb kind 1) (Shift value) (cond (eqb kind 2) (Announce value) (cond (eqb kind 3) (Pop value) Empty))

unfoldable pub cell_at : List ℕ → List ℕ → ℕ → ℕ → Cell
cell_at kinds values q c = cell_of (get_or kinds (q * 64 + c) 0) (get_or values (q * 64 + c) 0)

-- the state at q's goto for the nonterminal 64 + left
unfoldable pub goto_of : List ℕ → ℕ → ℕ → ℕ
goto_of gotos q left = get_or gotos (q * 64 + left) 0

-- byte i of rule r's row: 0 the number of symbols before `^`, 1 the left side's code - 64, 2 odd for a unit rule, 3 the number
-- of groups, 4.. their entry states in the order in which they are pushed, the last group's first
unfoldable pub figure_of : List ℕ → ℕ → ℕ → ℕ
figure_of rules r i = get_or rules (r * 32 + i) 0

-- ---- the grammar: the machine asks of a rule its unit flag, its left side and the number of symbols before `^`, so any
-- symbols stand for those before and after it

abbrev pub memory_rule : List ℕ → ℕ → Rule
memory_rule rules i = record {
  unit = eqb (figure_of rules i 2 % 2) 1;
  left = 64 + figure_of rules i 1;
  before = replicate (figure_of rules i 0) 1;
  groups = replicate (figure_of rules i 3) (1 ∷ []);
}

-- n rules, of which the first has number i
unfoldable pub rules_from : List ℕ → ℕ → ℕ → List Rule
rules_from rules zero i = []
rules_from rules (suc n) i = memory_rule rules i ∷ rules_from rules n (suc i)

unfoldable pub memory_grammar : List ℕ → Grammar
memory_grammar rules = record { terminals = 63; nonterminals = 64; goal = 64; rules = rules_from rules 255 1 }

-- ---- the automaton: entry 1 enters `start`, and entry 2 + s enters state s

abbrev pub entry_state : ℕ → ℕ → ℕ
entry_state start zero = 0
entry_state start (suc zero) = start
entry_state start (suc (suc s)) = s

-- the entries of rule r's first j groups in the order of the row, turned round: the first group's first
abbrev pub group_entries : List ℕ → ℕ → ℕ → List ℕ
group_entries rules r zero = []
group_entries rules r (suc j) = suc (suc (figure_of rules r (4 + j))) ∷ group_entries rules r j

-- the theory's cell; a pop takes the entry's symbols and its entry state
abbrev pub meaning : List ℕ → Cell → machine.Cell
meaning rules (Shift s) = machine.shift s
meaning rules (Announce r) = machine.announce r (group_entries rules r (figure_of rules r 3))
meaning rules (Pop n) = machine.pop (suc n)
meaning rules Empty = machine.empty

unfoldable pub memory_automaton : Machine → Automaton
memory_automaton mem = record {
  enter = entry_state mem.start;
  goto = λ q X. goto_of mem.gotos q (X - 64);
  cell = λ q c. meaning mem.rules (cell_at mem.kinds mem.values q c);
}
