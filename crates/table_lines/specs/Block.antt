-- Lines judged, and blocks of lines. Document 01, 'Replies': table lines in order, each by 1, 2, 3.
use Rattle.std.specs.Prelude.{ℕ, zero, suc, ◌<◌, ◌≡◌, List, [], ◌∷◌, ◌++◌, Bool, true, cond, length, get_or, drop}
use Rattle.reply.specs.declared.Kind.{Kind}
use Rattle.reply.specs.declared.Kind.TheVariants as kind
use Rattle.reply.specs.declared.Refusal.{Refusal}
use Rattle.table_lines.specs.declared.Judgement.{Judgement}
use Rattle.table_lines.specs.declared.Judgement.TheVariants.{Fine, Faulty}
use Rattle.table_lines.specs.declared.Step.{Step}
use Rattle.table_lines.specs.declared.Step.TheVariants as step
use Rattle.table_lines.specs.declared.Block.{Block}
use Rattle.table_lines.specs.declared.Block.TheVariants as block
use Rattle.table_lines.specs.declared.Tally.{Tally}
use Rattle.table_lines.specs.Line.{all_at_most, rising}
use Rattle.table_lines.specs.Tally.{largest_of, last_from}

-- by its form (1), its figures' limits (2) and what it names (3)
abbrev pub judge : Bool → Bool → Bool → Judgement
judge form limits declared = cond form (cond limits (cond declared Fine (Faulty kind.Undeclared)) (Faulty kind.LimitExceeded)) (Faulty kind.Malformed)

-- what comes of a place: a line and the position past it, no line of the block, or a refusal
pub data Outcome (A : Type 0) : Type 0 where
  takes : A → ℕ → Outcome A
  stops : Outcome A
  refuses : Refusal → Outcome A

abbrev pub fault : {A : Type 0} → Kind → ℕ → Outcome A
fault kind place = refuses (record { kind = kind; place = place })

-- a line at `at`, by its judgement
abbrev pub judged : {A : Type 0} → Judgement → ℕ → A → ℕ → Outcome A
judged Fine at x next = takes x next
judged (Faulty kind) at x next = fault kind at

abbrev pub step_of : {A : Type 0} → Outcome A → Step
step_of (takes x next) = step.Taken next
step_of stops = step.Stopped
step_of (refuses why) = step.Refused why

-- a block: its lines and the position past them, or a refusal
pub data Lines (A : Type 0) : Type 0 where
  read : List A → ℕ → Lines A
  refused : Refusal → Lines A

abbrev pub on_outcome : {A B : Type 0} → Outcome A → (A → ℕ → B) → B → (Refusal → B) → B
on_outcome (takes x next) f y g = f x next
on_outcome stops f y g = y
on_outcome (refuses why) f y g = g why

-- at most k lines from `at` on, after those already read
unfoldable pub lines_from : {A : Type 0} → ℕ → (ℕ → List A → Outcome A) → ℕ → List A → Lines A
lines_from zero next at l = read l at
lines_from (suc k) next at l = on_outcome (next at l) (λ x past. lines_from k next past (l ++ x ∷ [])) (read l at) refused

-- ---- what the code holds of a line's numbers as memory keeps them: the first of them in memory m, and the tally of all
pub record Numbers (ns : List ℕ) (count : ℕ) (m : List ℕ) : Type 0 where
  pub count_is : count ≡ length ns
  pub number_is : (k : ℕ) → k < length ns → k < length m → get_or m k 0 ≡ get_or ns k 0

pub record Summarizes (ns : List ℕ) (p : Tally) (m : List ℕ) : Type 0 where
  pub largest_is : p.largest ≡ largest_of ns
  pub last_is : p.last ≡ last_from 0 ns
  pub rises : all_at_most 65535 ns ≡ true → p.rising ≡ rising (drop 3 ns)
  pub numbers : Numbers ns p.count m

-- what the code's step is, by what should come of the place after the lines l; M is what memory then is, by the lines taken
pub data Comes {A : Type 0} (l : List A) (M : List A → Type 0) : Outcome A → Step → Type 0 where
  taken : {x : A} {next : ℕ} → M (l ++ x ∷ []) → Comes l M (takes x next) (step.Taken next)
  stopped : M l → Comes l M stops step.Stopped
  turned : {why : Refusal} → Comes l M (refuses why) (step.Refused why)

-- what the code's answer to a block is, by what should come of it; M is what memory then is, by the block's lines
pub data Reads {A : Type 0} (M : List A → Type 0) : Lines A → Block → Type 0 where
  all_read : {l : List A} {next : ℕ} → M l → Reads M (read l next) (block.Read (length l) next)
  turned_away : {why : Refusal} → Reads M (refused why) (block.Refused why)
