-- The machine: steps over a stack of states, the walk, its needs, and the walk with lent lengths. Document 01, 'Walk'.
use Rattle.std.specs.Prelude.{ℕ, zero, suc, ◌+◌, ◌*◌, max, ◌≡◌, cond, ◌&&◌, List, [], ◌∷◌, ◌++◌, map, leb, length, drop}
use Rattle.std.proofs.Math.Option.{Option, some, none}
use Rattle.language.specs.Grammar.{Grammar, Rule, rule_at}
use Rattle.language.specs.First.{next}
pub use Rattle.language.specs.Trace.{Event, shifted, announced, closed, rules_of}

-- what a state does on a code; an announce names its rule and, for each group, the number of its entry
pub data Cell : Type 0 where
  shift : ℕ → Cell
  announce : ℕ → List ℕ → Cell
  pop : ℕ → Cell
  empty : Cell

-- what the machine reads of a table: an entry's state by its number, and the next states and cells by state and symbol
pub record Automaton : Type 0 where
  pub enter : ℕ → ℕ
  pub goto : ℕ → ℕ → ℕ
  pub cell : ℕ → ℕ → Cell

-- what a step comes to: an event and the stack after it, or the walk's end
pub data Outcome : Type 0 where
  on : Event → List ℕ → Outcome
  whole : Outcome
  wrong : Outcome

-- what an event leaves of the tokens to come, and how many are then taken
abbrev pub to_come : Event → List ℕ → List ℕ
to_come (shifted a) w = drop 1 w
to_come (announced i) w = w
to_come closed w = w

abbrev pub taken : Event → ℕ → ℕ
taken (shifted a) p = suc p
taken (announced i) p = p
taken closed p = p

-- how a walk ends: whole, or wrong at a place
pub data Ending : Type 0 where
  accepted : Ending
  failed : ℕ → Ending

-- how a walk with lent lengths ends: whole at a place with a listing, wrong or short at a place
pub data Verdict : Type 0 where
  whole_at : ℕ → List ℕ → Verdict
  wrong_at : ℕ → Verdict
  short_at : ℕ → Verdict

-- "Shift pushes the next state and takes a token."
abbrev pub shift_to : ℕ → List ℕ → ℕ → Outcome
shift_to s S zero = wrong
shift_to s S (suc a) = on (shifted (suc a)) (s ∷ S)

-- "A pop that empties the stack ends the walk: whole if the token is 0, else wrong there."
abbrev pub pop_to : List ℕ → ℕ → Outcome
pop_to [] zero = whole
pop_to [] (suc a) = wrong
pop_to (q ∷ S) c = on closed (q ∷ S)

module _ (g : Grammar) (m : Automaton) where
  -- "Announcing a rule [..] pops as many states as symbols left of `^`, pushes the N state of the state now on top, then
  -- pushes the group entries, last group first."
  abbrev pub land : ℕ → Rule → List ℕ → List ℕ → Outcome
  land i r es [] = wrong
  land i r es (q ∷ S) = on (announced i) (map m.enter es ++ m.goto q r.left ∷ q ∷ S)

  abbrev pub tell : Option Rule → ℕ → List ℕ → List ℕ → Outcome
  tell none i es S = wrong
  tell (some r) i es S = land i r es (drop (length r.before) S)

  -- "An empty cell is wrong there."
  abbrev pub act : Cell → List ℕ → ℕ → Outcome
  act (shift s) S c = shift_to s S c
  act (announce i es) S c = tell (rule_at g i) i es S
  act (pop n) S c = pop_to (drop n S) c
  act empty S c = wrong

  -- a step looks at the top state and the next code, 0 at the end of the tokens
  abbrev pub step : List ℕ → ℕ → Outcome
  step S c = act (m.cell (next S 0) c) S c

  -- "The stack begins with the goal's entry state."
  abbrev pub start : List ℕ
  start = m.enter 1 ∷ []

  -- ---- the walk, with nothing lent

  -- from stack S, with tokens w to come and p taken, the walk ends so; it holds at most h states from here on, and announces l
  pub data Walk : List ℕ → List ℕ → ℕ → Ending → ℕ → List ℕ → Type 0 where
    ends_whole : {S w : List ℕ} {p : ℕ} → step S (next w 0) ≡ whole → Walk S w p accepted (length S) []
    ends_wrong : {S w : List ℕ} {p : ℕ} → step S (next w 0) ≡ wrong → Walk S w p (failed p) (length S) []
    goes_on : {S U w l : List ℕ} {e : Event} {p h : ℕ} {o : Ending} → step S (next w 0) ≡ on e U → Walk U (to_come e w) (taken e p) o h l
        → Walk S w p o (max (length S) h) (rules_of e ++ l)

  -- ---- the walk with a stack slice of n places and a listing slice of k

  module _ (n k : ℕ) where
    -- a step is done where its stack and the listing fit, else the walk is short at the tokens taken before it
    abbrev pub fits : ℕ → List ℕ → List ℕ → Verdict → Verdict
    fits p U l v = cond (leb (length U) n && leb (length l) k) v (short_at p)

    -- what follows a step; `again` is the walk from the stack, tokens, place and listing after it
    abbrev pub proceed : Outcome → List ℕ → ℕ → List ℕ → (List ℕ → List ℕ → ℕ → List ℕ → Verdict) → Verdict
    proceed whole w p l again = whole_at p l
    proceed wrong w p l again = wrong_at p
    proceed (on e U) w p l again = fits p U (l ++ rules_of e) (again U (to_come e w) (taken e p) (l ++ rules_of e))

    abbrev pub walk_for : ℕ → List ℕ → List ℕ → ℕ → List ℕ → Verdict
    walk_for zero S w p l = short_at p
    walk_for (suc f) S w p l = proceed (step S (next w 0)) w p l (walk_for f)

    -- each announce takes a listing place and each shift a token; between two of these at most n states are popped
    abbrev pub enough_steps : List ℕ → ℕ
    enough_steps w = suc (suc (k + length w) * suc n)

    -- "gives 11 at the first step whose stack or listing would outgrow its slice"; the start counts as well
    abbrev pub walk : List ℕ → Verdict
    walk w = fits 0 start [] (walk_for (enough_steps w) start w 0 [])
