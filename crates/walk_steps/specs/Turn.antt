-- A walk's position in memory against the theory's stack, tokens and listing, and what one step makes of it.
use Rattle.std.specs.Prelude.{ℕ, suc, ◌+◌, ◌*◌, ◌-◌, ◌≤◌, ◌<◌, ◌≡◌, List, length, get_or, take, drop}
use Rattle.language.specs.Grammar.{Grammar, rule_at}
use Rattle.language.specs.Listing.{units_in}
use Rattle.leftcorner.specs.Machine.{Automaton, Outcome, shift_to, pop_to, tell, Verdict, whole_at, wrong_at, short_at, proceed}
use Rattle.walk_tables.specs.declared.Machine.{Machine}
use Rattle.walk_tables.specs.Memory.{figure_of, group_entries, memory_grammar, memory_automaton}
use Rattle.walk_stack.specs.Stack.{tops}
use Rattle.walk_steps.specs.declared.Position.{Position}
use Rattle.walk_steps.specs.declared.Turn.{Turn}
use Rattle.walk_steps.specs.declared.Turn.TheVariants.{On, Whole, Wrong, Short}

-- position p with the stack lowered to a height
abbrev pub lowered_to : List ℕ → ℕ → Position → Turn
lowered_to stack height p = On (record
    { height = height; taken = p.taken; listed = p.listed; units = p.units; top = get_or stack (height - 1) 0; code = p.code })

-- a bound on the steps that are left: each takes a place of the listing or a token, or lowers the stack
unfoldable pub steps_left : ℕ → ℕ → List ℕ → Position → ℕ
steps_left n k tokens p = (k - p.listed + (length tokens - p.taken)) * suc n + p.height

-- a position in slices of n and k places
pub record Stands (g : Grammar) (n k : ℕ) (tokens stack listing : List ℕ) (p : Position) : Type 0 where
  pub stack_long : length stack ≡ n
  pub listing_long : length listing ≡ k
  pub started : 0 < p.height
  pub high : p.height ≤ n
  pub room : p.listed ≤ k
  pub in_tokens : p.taken ≤ length tokens
  pub counted : p.units ≡ units_in g (take p.listed listing)
  pub top_is : p.top ≡ get_or stack (p.height - 1) 0
  pub code_is : p.code ≡ get_or tokens p.taken 0

module _ (g : Grammar) (m : Automaton) (n k : ℕ) (tokens stack listing : List ℕ) (p : Position) where
  -- what the theory makes of a step's outcome, with `again` for the walk after it
  abbrev pub proceeds : Outcome → (List ℕ → List ℕ → ℕ → List ℕ → Verdict) → Verdict
  proceeds o again = proceed g m n k o (drop p.taken tokens) p.taken (take p.listed listing) again

  -- the walk goes on at position q
  pub record Moves (o : Outcome) (stack' listing' : List ℕ) (q : Position) : Type 0 where
    pub stands : Stands g n k tokens stack' listing' q
    pub goes : (again : List ℕ → List ℕ → ℕ → List ℕ → Verdict)
        → proceeds o again ≡ again (tops stack' q.height) (drop q.taken tokens) q.taken (take q.listed listing')
    pub less : steps_left n k tokens q < steps_left n k tokens p

  -- the walk ends so, whatever would come after
  abbrev pub Ends : Outcome → Verdict → Type 0
  Ends o v = (again : List ℕ → List ℕ → ℕ → List ℕ → Verdict) → proceeds o again ≡ v

  -- what the outcome of a step makes of position p
  abbrev pub Turned : Outcome → List ℕ → List ℕ → Turn → Type 0
  Turned o stack' listing' (On q) = Moves o stack' listing' q
  Turned o stack' listing' Whole = Ends o (whole_at p.taken (take p.listed listing)) × (listing' ≡ listing)
  Turned o stack' listing' Wrong = Ends o (wrong_at p.taken)
  Turned o stack' listing' Short = Ends o (short_at p.taken)

-- ---- the steps: each looks at its own slices only, so holds with any others

abbrev pub Shifts : List ℕ → List ℕ → ℕ → Position → Turn → List ℕ → Type 0
Shifts tokens stack s p t stack' =
    (g : Grammar) (m : Automaton) (n k : ℕ) (listing : List ℕ) → Stands g n k tokens stack listing p
    → Turned g m n k tokens stack listing p (shift_to s (tops stack p.height) p.code) stack' listing t

abbrev pub Pops : List ℕ → ℕ → Position → Turn → Type 0
Pops stack symbols p t =
    (g : Grammar) (m : Automaton) (n k : ℕ) (tokens listing : List ℕ) → Stands g n k tokens stack listing p
    → Turned g m n k tokens stack listing p (pop_to (drop (suc symbols) (tops stack p.height)) p.code) stack listing t

-- a machine's gotos and rules, with any cells and any start
abbrev pub with_cells : Machine → List ℕ → List ℕ → ℕ → Machine
with_cells mem kinds values start =
    record { kinds = kinds; values = values; gotos = mem.gotos; rules = mem.rules; start = start; terminals = mem.terminals }

abbrev pub Announces : Machine → List ℕ → List ℕ → ℕ → Position → Turn → List ℕ → List ℕ → Type 0
Announces mem stack listing r p t stack' listing' =
    (kinds values : List ℕ) (start n k : ℕ) (tokens : List ℕ) → Stands (memory_grammar mem.rules) n k tokens stack listing p
    → Turned (memory_grammar mem.rules) (memory_automaton (with_cells mem kinds values start)) n k tokens stack listing p
    (tell (memory_grammar mem.rules) (memory_automaton (with_cells mem kinds values start)) (rule_at (memory_grammar mem.rules) r) r
    (group_entries mem.rules r (figure_of mem.rules r 3)) (tops stack p.height))
    stack' listing' t
