-- What is read is sound (specs/Sound.antt), proved.
use Prim.Native.Nat.{ℕ, zero, suc, ◌+◌, ◌-◌, ◌≤◌}
use mathlib.Core.Path.{◌≡◌, refl, ap, subst}
use mathlib.Core.Logic.{◌⊎◌, inl, inr}
use mathlib.Core.List.{List, []}
use mathlib.Core.Bool.{cond}
use mathlib.Core.Option.{Option, some}
use native.Mathlib.Decide.{dec_le}
use native.Mathlib.Omega.{arith}
use lib.Dec.{leb}
use lib.ListN.{length}
use Rattle.language.specs.Grammar.{Grammar, Rule, at, rule_at}
use Rattle.language.proofs.GrammarLaws.{at_below, range_rule}
use Rattle.grammar.specs.Book.{accepted, grammar_of}
use Rattle.grammar.proofs.GrammarLaws.{accepted_reduced}
use Rattle.leftcorner.specs.Table.{EntryLine, E, KernelLine, Action, S, N, A, P, ActionLine, L, Table, entry_at, string_of, next_state, right_of, symbols_of}
use Rattle.leftcorner.specs.Construction.{entry_item, EntryAt, ActionAt, WellFormed}
use Rattle.leftcorner.proofs.ReadOff.{clash}
use Rattle.memory.specs.Fits.{Fits}
use Rattle.table_order.specs.Order.{action_key}
use Rattle.table_order.proofs.OrderLaws.{RisingBy, rising_one}
use Rattle.table_lines.specs.Block.{read}
use Rattle.table_entries.specs.Entries.{entries_from}
use Rattle.table_kernels.specs.Kernels.{kernels_from}
use Rattle.table_actions.specs.Actions.{actions_from}
use Rattle.table_head.specs.declared.Head.TheVariants as head
use Rattle.table.specs.Book.{head_of, whole, lengths_of, table_with, tables_of}
use Rattle.table_head.proofs.HeadLaws.{head_within}
use Rattle.table_facts.proofs.Blocks.{Each, each_in, Once}
use Rattle.table_facts.proofs.Entries as entries
use Rattle.table_facts.proofs.Kernels as kernels
use Rattle.table_facts.proofs.Actions as actions
use Rattle.table_facts.proofs.Parts.{tables_parts}
use Rattle.table_facts.specs.Sound.{Sound}

-- ---- a table by its lines
-- an action's next state is declared
next_in : (t n rules states X s : ℕ) (x : Action) → actions.OfKind t n rules states X x → next_state x ≡ some s → (1 ≤ s) × (s ≤ states)
next_in t n rules states X s (S v) h e = let q : v ≡ s = cc in subst (λ (n : ℕ). (1 ≤ n) × (n ≤ states)) q h.1
next_in t n rules states X s (N v) h e = let q : v ≡ s = cc in subst (λ (n : ℕ). (1 ≤ n) × (n ≤ states)) q h.1
next_in t n rules states X s (A v) h e = clash cc
next_in t n rules states X s (P v) h e = clash cc

module _ (g : Grammar) (t : Table) where
  abbrev KernelDeclared : KernelLine → Type 0
  KernelDeclared = kernels.Declared g.terminals t.states (length g.rules + length t.entries) (lengths_of g t.entries)

  abbrev ActionDeclared : ActionLine → Type 0
  ActionDeclared = actions.Declared g.terminals g.nonterminals (length g.rules) t.states

  -- the lengths of the items' strings go by the entries alone
  lengths_are : (i : ℕ) → lengths_of g t.entries i ≡ length (symbols_of g t i)
  lengths_are i = ap (λ (o : Option EntryLine). length (cond (leb i (length g.rules)) (right_of (rule_at g i)) (string_of o))) (same (i - length g.rules))
    where
      same : (k : ℕ) → entry_at (table_with 0 t.entries [] []) k ≡ entry_at t k
      same zero = refl
      same (suc k) = refl

  abbrev Known : ℕ → Type 0
  Known i = ((r : Rule) × (rule_at g i ≡ some r)) ⊎ ((j : ℕ) × (s : ℕ) × (γ : List ℕ) × (i ≡ entry_item g t j) × EntryAt g t j s γ)

  -- an item is a rule, or the string of an entry
  item_known : (i : ℕ) → 1 ≤ i → i ≤ length g.rules + length t.entries → Known i
  item_known i a b = go (dec_le i (length g.rules))
    where
      line : (k : ℕ) → i ≡ length g.rules + suc k → (x : EntryLine) × (at t.entries k ≡ some x) → Known i
      line k e (E s γ, h) = inr (suc k, s, γ, e, h)

      go : Dec (i ≤ length g.rules) → Known i
      go (yes h) = inl (range_rule g i a h)
      go (no h) = line (i - suc (length g.rules)) (omega arith) (at_below t.entries (i - suc (length g.rules)) (omega arith))

  module _ (es : Each (entries.Declared g t.states) t.entries) (one : Once entries.entry_string t.entries)
      (ks : Each KernelDeclared t.kernels)
      (xs : Each ActionDeclared t.actions) (single : RisingBy action_key t.actions) where
    entry_in : (k s : ℕ) (γ : List ℕ) → EntryAt g t k s γ → entries.EntryDeclared g t.states s γ
    entry_in zero s γ e = clash cc
    entry_in (suc k) s γ e = es.each k e

    one_entry : (j k s u : ℕ) (γ : List ℕ) → EntryAt g t j s γ → EntryAt g t k u γ → j ≡ k
    one_entry zero k s u γ e f = clash cc
    one_entry (suc j) zero s u γ e f = clash cc
    one_entry (suc j) (suc k) s u γ e f = ap suc (one.once j k e f refl)

    one_action : (q X : ℕ) (x y : Action) → ActionAt g t q X x → ActionAt g t q X y → x ≡ y
    one_action q X x y m n = let e : L q X x ≡ L q X y = rising_one action_key t.actions single m n refl in cc

    lines_formed : WellFormed g t
    lines_formed = record {
      one_entry = one_entry;
      one_action = one_action;
      some_code = λ q i k σ m. (each_in ks m).some_code;
      item_declared = λ q i k σ m. let h = (each_in ks m).item_in in item_known i h.0 h.1;
      kernel_state = λ q i k σ m. (each_in ks m).state_in;
      entry_state = λ k s γ e. (entry_in k s γ e).state_in;
      action_state = λ q X x m. (each_in xs m).0;
      shift_kind = λ q a s m. (each_in xs m).1.0;
      goto_kind = λ q X s m. (each_in xs m).1.0;
    }

    lines_fit : t.states ≤ 255 → length t.entries ≤ 127 → length t.kernels ≤ 1023 → Fits g t
    lines_fit a b c = record {
      form = lines_formed;
      few_states = a;
      few_entries = b;
      few_kernels = c;
      string_some = λ k s γ e. (entry_in k s γ e).some_symbol;
      string_short = λ k s γ e. (entry_in k s γ e).few_symbols;
      string_declared = λ k s γ e. (entry_in k s γ e).symbols_in;
      dot_within = λ q i k σ m. omega (arith, (each_in ks m).dot_in, lengths_are i);
      code_declared = λ q i k d σ m n. (each_in ks m).codes_in_lem d n;
      next_declared = λ q X s x m e. next_in g.terminals g.nonterminals (length g.rules) t.states X s x (each_in xs m).1 e;
      rule_declared = λ q X i m. let h = (each_in xs m).1.1 in range_rule g i h.0 h.1;
      announce_kind = λ q X i m. (each_in xs m).1.0;
      pop_kind = λ q X n m. (each_in xs m).1;
    }

-- ---- both books
module _ (gs s : List ℕ) {g : Grammar} (a : grammar_of gs ≡ accepted g) {states count first : ℕ} (h : head_of s ≡ head.Read states count first) where
  blocks_sound : {es : List EntryLine} {ks : List KernelLine} {xs : List ActionLine} {second third end : ℕ}
      → entries_from count s g.terminals g.nonterminals g.rules states first ≡ read es second
      → kernels_from s g.terminals states (length g.rules + length es) (lengths_of g es) second ≡ read ks third
      → actions_from s g.terminals g.nonterminals (length g.rules) states third ≡ read xs end → Sound g (table_with states es ks xs)
  blocks_sound {es} {ks} {xs} {second} {third} {end} i j k =
      let r = accepted_reduced gs g a in
      let w = head_within s h in
      let n = entries.entries_counted g s states count first i in
      record {
        formed = r.formed;
        productive = r.productive;
        reachable = r.reachable;
        fits = lines_fit g (table_with states es ks xs)
            (entries.entries_declared g s states count first i) (entries.entries_once g s states count first i)
            (kernels.kernels_declared s g.terminals states items lens second j)
            (actions.actions_declared s g.terminals g.nonterminals (length g.rules) states third k)
            (actions.actions_rise s g.terminals g.nonterminals (length g.rules) states third k)
            w.0.1 (omega (arith, n, w.1)) (kernels.kernels_few s g.terminals states items lens second j);
        some_state = w.0.0;
        some_entry = omega (arith, n, w.1);
        some_kernel = kernels.kernels_some s g.terminals states items lens second j;
        entries_follow = entries.entries_follow g s states count first i;
        kernels_rise = kernels.kernels_rise s g.terminals states items lens second j;
        actions_rise = actions.actions_rise s g.terminals g.nonterminals (length g.rules) states third k;
      }
    where
      items : ℕ
      items = length g.rules + length es

      lens : ℕ → ℕ
      lens = lengths_of g es

pub tables_sound : (gs s : List ℕ) {g : Grammar} {t : Table} → tables_of gs s ≡ whole g t → Sound g t
tables_sound gs s e = let p = tables_parts gs s e in blocks_sound gs s p.grammar_is p.head_is p.entries_are p.kernels_are p.actions_are

-- the grammar is that of its book
pub tables_grammar : (gs s : List ℕ) {g : Grammar} {t : Table} → tables_of gs s ≡ whole g t → grammar_of gs ≡ accepted g
tables_grammar gs s e = (tables_parts gs s e).grammar_is
