-- What the order of a table book's lines is, and what it promises. Document 02, S-5: "Two offices kept the same tables in books that differed.
-- K lines must now rise by state, item, dot; action lines by state, symbol; E lines after the goal follow the first use of their group in the
-- rules (a string that is no group is passed over here and is items later). The first line out of order is torn. From here, accepted books for
-- one grammar that hold the same records are the same bytes."
use Rattle.std.specs.Prelude.{ℕ, ◌≡◌, List, [], ◌∷◌, ◌++◌, true, false, get_or, drop}
use Rattle.language.specs.Grammar.{Rule, Grammar}
use Rattle.language.specs.Sentence.{In}
use Rattle.leftcorner.specs.Table.{EntryLine, KernelLine, ActionLine, Table}
use Rattle.std.specs.Prelude.{◌↔◌}
use Rattle.reply.specs.declared.Kind.TheVariants.{Malformed}
use Rattle.reply.specs.declared.Reply.TheVariants.{Accepted}
use Rattle.grammar.specs.Book.{accepted, grammar_of}
use Rattle.table_order.specs.Order.{below, follows, kernel_key, action_key, group_lines, use_key, entry_follows}
use Rattle.table_lines.specs.Line.{line_at}
use Rattle.table_lines.specs.Line as line
use Rattle.table_lines.specs.Block.{fault}
use Rattle.table_entries.specs.Entries.{entry_next}
use Rattle.table_kernels.specs.Kernels.{kernel_next}
use Rattle.table_actions.specs.Actions.{action_next}
use Rattle.table.specs.Book.{whole, tables_of}
use Rattle.build_book.specs.Text.{table_text}
use Rattle.checker.specs.Checked.{verdict_of, Accepts}

-- each line's key is below that of every later line
abbrev pub Rises : {A : Type 0} → (A → List ℕ) → List A → Type 0
Rises {A} key l = (before between after : List A) (x y : A) → l ≡ before ++ x ∷ (between ++ y ∷ after) → below (key x) (key y) ≡ true

pub record Ordered (g : Grammar) (t : Table) : Type 0 where
  -- "K lines must now rise by state, item, dot"
  pub kernels : Rises kernel_key t.kernels
  -- "action lines by state, symbol"
  pub actions : Rises action_key t.actions
  -- "E lines after the goal follow the first use of their group in the rules": line 1 is not asked, nor is a string that is no group
  pub entries : Rises (use_key g.rules) (group_lines g.rules (drop 1 t.entries))

-- "The first line out of order is torn": so is the next line, at `at` behind the lines l, however large its numbers ns are and whatever
-- they name
pub record Torn (s : List ℕ) (at letter : ℕ) (ns : List ℕ) : Type 0 where
  pub kernel : letter ≡ 75 → (t states items : ℕ) (lens : ℕ → ℕ) (l : List KernelLine) → follows kernel_key l (get_or ns 0 0 ∷ get_or ns 1 0 ∷ get_or ns 2 0 ∷ []) ≡ false
      → kernel_next s t states items lens at l ≡ fault Malformed at
  pub action : (t n rules states : ℕ) (l : List ActionLine) → follows action_key l (get_or ns 0 0 ∷ get_or ns 1 0 ∷ []) ≡ false → action_next s t n rules states at l ≡ fault Malformed at
  pub entry : (t n : ℕ) (rs : List Rule) (states : ℕ) (l : List EntryLine) → entry_follows rs l (drop 1 ns) ≡ false → entry_next s t n rs states at l ≡ fault Malformed at

-- each line of one is a line of the other, wherever it stands
abbrev pub SameLines : {A : Type 0} → List A → List A → Type 0
SameLines l m = (x : _) → In x l ↔ In x m

-- "hold the same records": as many states, and the same entry, kernel and action lines, in any order
pub record SameRecords (t u : Table) : Type 0 where
  pub states : t.states ≡ u.states
  pub entries : SameLines t.entries u.entries
  pub kernels : SameLines t.kernels u.kernels
  pub actions : SameLines t.actions u.actions

pub record OrderPromise : Type 0 where
  pub torn : (s : List ℕ) (at letter past : ℕ) (ns : List ℕ) → line_at s at ≡ line.whole letter ns past → Torn s at letter ns
  -- the lines of a table book that was read, accepted or not, are in order
  pub ordered : (gs s : List ℕ) (g : Grammar) (t : Table) → tables_of gs s ≡ whole g t → Ordered g t
  -- and the book is the text of its table: nothing in it is left open
  pub written : (gs s : List ℕ) (g : Grammar) (t : Table) → tables_of gs s ≡ whole g t → s ≡ table_text t
  -- "accepted books for one grammar that hold the same records are the same bytes", whichever books the grammar was read from; and only
  -- these are
  pub same_bytes : (g : Grammar) (gs hs s w : List ℕ) → grammar_of gs ≡ accepted g → grammar_of hs ≡ accepted g
      → verdict_of gs s ≡ Accepted 0 → verdict_of hs w ≡ Accepted 0
      → (t : Table) × (u : Table) × Accepts gs s g t × Accepts hs w g u × (SameRecords t u ↔ (s ≡ w))
