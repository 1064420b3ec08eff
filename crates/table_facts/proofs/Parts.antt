-- Two books that give a grammar and a table, part by part.
use Prim.Native.Nat.{ℕ, ◌+◌}
use mathlib.Core.Path.{◌≡◌, refl, subst}
use mathlib.Core.List.{List}
use lib.Dec.{ltb}
use lib.ListN.{length}
use Rattle.language.specs.Grammar.{Grammar}
use Rattle.range.proofs.TestLaws.{all_cond}
use Rattle.reply.specs.declared.Refusal.{Refusal}
use Rattle.grammar.specs.Book.{Book, accepted, on_accepted, grammar_of}
use Rattle.grammar.specs.Book as grammar-book
use Rattle.leftcorner.specs.Table.{Table}
use Rattle.table_lines.specs.Block.{Lines, read, refused}
use Rattle.table_entries.specs.Entries.{entries_from}
use Rattle.table_kernels.specs.Kernels.{kernels_from}
use Rattle.table_actions.specs.Actions.{actions_from}
use Rattle.table_head.specs.declared.Head.{Head}
use Rattle.table_head.specs.declared.Head.TheVariants as head
use Rattle.table.specs.Book.{head_of, on_head, Reading, whole, rejected, on_lines, lengths_of, actions_of, kernels_of, entries_of, table_of, tables_of}

-- the grammar is that of its book, and the table's first line and blocks were read one after the other
pub record Parts (gs s : List ℕ) (g : Grammar) (t : Table) : Type 0 where
  pub count : ℕ
  pub first : ℕ
  pub second : ℕ
  pub third : ℕ
  pub end : ℕ
  pub grammar_is : grammar_of gs ≡ accepted g
  pub head_is : head_of s ≡ head.Read t.states count first
  pub entries_are : entries_from count s g.terminals g.nonterminals g.rules t.states first ≡ read t.entries second
  pub kernels_are : kernels_from s g.terminals t.states (length g.rules + length t.entries) (lengths_of g t.entries) second ≡ read t.kernels third
  pub actions_are : actions_from s g.terminals g.nonterminals (length g.rules) t.states third ≡ read t.actions end

-- ---- what holds of each way out holds of the reading
module _ (P : Reading → Type 0) (turned : (why : Refusal) → P (rejected why)) where
  all_lines : {A : Type 0} (o : Lines A) {f : List A → ℕ → Reading} → ((l : List A) (next : ℕ) → o ≡ read l next → P (f l next)) → P (on_lines o f rejected)
  all_lines (read l next) h = h l next refl
  all_lines (refused why) h = turned why

  all_head : (o : Head) {f : ℕ → ℕ → ℕ → Reading} → ((states count next : ℕ) → o ≡ head.Read states count next → P (f states count next)) → P (on_head o f rejected)
  all_head (head.Read states count next) h = h states count next refl
  all_head (head.Refused why) h = turned why

  all_accepted : (o : Book) {f : Grammar → Reading} → ((g : Grammar) → o ≡ accepted g → P (f g)) → P (on_accepted o f rejected)
  all_accepted (accepted g) h = h g refl
  all_accepted (grammar-book.rejected why) h = turned why

module _ (gs s : List ℕ) where
  abbrev PartsOf : Reading → Type 0
  PartsOf (whole g t) = Parts gs s g t
  PartsOf (rejected why) = Unit {0}

  turned : (why : Refusal) → PartsOf (rejected why)
  turned why = tt

  blocks_parted : (g : Grammar) → grammar_of gs ≡ accepted g → (states count first : ℕ) → head_of s ≡ head.Read states count first → PartsOf (entries_of g s states count first)
  unfolding entries_of kernels_of actions_of
  blocks_parted g a states count first h =
      all_lines PartsOf turned (entries_from count s g.terminals g.nonterminals g.rules states first)
      (λ es second i. all_lines PartsOf turned (kernels_from s g.terminals states (length g.rules + length es) (lengths_of g es) second)
      (λ ks third j. all_lines PartsOf turned (actions_from s g.terminals g.nonterminals (length g.rules) states third) (λ xs end k. record {
        count = count;
        first = first;
        second = second;
        third = third;
        end = end;
        grammar_is = a;
        head_is = h;
        entries_are = i;
        kernels_are = j;
        actions_are = k;
      })))

  pub tables_parts : {g : Grammar} {t : Table} → tables_of gs s ≡ whole g t → Parts gs s g t
  unfolding tables_of table_of
  tables_parts e =
      subst PartsOf e
      (all_cond PartsOf (ltb 65536 (length s)) (λ p. tt)
      (λ p. all_accepted PartsOf turned (grammar_of gs) (λ g a. all_head PartsOf turned (head_of s) (blocks_parted g a))))
