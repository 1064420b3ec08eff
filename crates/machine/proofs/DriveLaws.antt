-- Tables in memory that meet the construction, with their rules linked, are a machine that makes the table's steps; and what such a
-- machine walks is the walk of the table's automaton.
use Prim.Native.Nat.{ℕ, suc, ◌≤◌, ◌<◌}
use native.Mathlib.Omega.{arith}
use mathlib.Core.Path.{◌≡◌, refl, sym, ap, subst, ◌∙◌}
use mathlib.Core.Logic.{inl, inr}
use mathlib.Core.List.{List}
use mathlib.Core.Option.{some}
use lib.ListN.{length, get_or}
use Rattle.std.specs.Prelude.{Ok}
use Rattle.language.specs.Grammar.{Grammar, Rule, rule_at}
use Rattle.language.proofs.GrammarLaws.{rule_range}
use Rattle.language.specs.First.{First}
use Rattle.language.specs.Sentence.{In}
use Rattle.leftcorner.specs.Machine.{walk}
use Rattle.leftcorner.specs.Table.{Action, P, Table, state_of, automaton}
use Rattle.leftcorner.specs.Construction.{EntryAt, ActionAt, Asked, to_move, to_announce, to_pop}
use Rattle.leftcorner.proofs.ReadOff.{clash}
use Rattle.table.specs.Book.{Reading, whole}
use Rattle.checker.specs.Loaded.{InMemory}
use Rattle.walk_tables.specs.declared.Machine.{Machine}
use Rattle.walk_tables.specs.Memory.{memory_grammar, memory_automaton}
use Rattle.walker.specs.Walked.{memory_walk}
use Rattle.walker.proofs.AgreeLaws.{CodeOf, walk_agree, units_agree}
use Rattle.walk_rules.specs.Linked.{Linked}
use Rattle.machine.specs.Machine.{AllLow, Drives, MachineIs}
use Rattle.machine.proofs.AgreeLaws.{step_same, step_low, enter_low}

module _ (g : Grammar) (t : Table) where
  -- a pop is that of a finished entry item
  pop_of : {q c : ℕ} {x : Action} → Asked g t (First g) q c x → (n : ℕ) → x ≡ P n → (k : ℕ) × (s : ℕ) × (γ : List ℕ) × EntryAt g t k s γ × (n ≡ suc (length γ))
  pop_of (to_move m) n e = clash cc
  pop_of (to_announce i r h f) n e = clash cc
  pop_of (to_pop k {s} {γ} h f) n e = (k, s, γ, h, (let z : n ≡ suc (length γ) = cc in z))

  module _ (mem : Machine) {items entries : List ℕ} {rules strings : ℕ} (I : InMemory g t items entries mem.kinds mem.values mem.gotos mem.terminals rules strings) where
    pops_low : (q c n : ℕ) → ActionAt g t q c (P n) → (1 ≤ n) × (n ≤ 255)
    pops_low q c n a =
        let h = pop_of ((I.meets.cells q).asked c (P n) a) n refl in
        (omega (arith, h.4), omega (arith, h.4, I.holds_strings.fits.string_short h.0 h.1 h.2 h.3))

    rules_low : (i : ℕ) (r : Rule) → rule_at g i ≡ some r → (i < 256) × (r.left < 128)
    rules_low i r e =
        let f = I.holds_strings.formed in
        (omega (arith, (rule_range g i e).1, f.few_rules), omega (arith, (f.formed i e).left_declared.1, f.few_nonterminals))

    -- where the rules are linked
    pub drives : Linked mem.rules mem.start g t → mem.start ≡ get_or entries 1 0 → Drives g t mem
    drives L first =
        let goal = I.meets.entries.goal_first in
        let F = I.holds_strings.fits in
        record {
          terminals_is = sym I.terminals_is;
          few_terminals = I.holds_strings.formed.few_terminals;
          steps = λ S c low small. step_same g t mem I.holds_actions F L rules_low pops_low S c low small;
          start_is = ap state_of goal.1 ∙ sym (I.holds_entries.state_is 1 goal.0 goal.1) ∙ sym first;
          start_low = (enter_low g t F 1, tt);
          stays_low = step_low g t F;
          units_is = units_agree (memory_grammar mem.rules) g L.units_is;
        }

-- the walk over the machine is the walk of the table's automaton
pub walk_is : {g : Grammar} {t : Table} {mem : Machine} → Drives g t mem
    → (n k : ℕ) (w : List ℕ) → ((a : ℕ) → In a w → a < 64) → walk g (automaton g t) n k w ≡ memory_walk mem n k w
unfolding memory_walk memory_automaton
walk_is {g} {t} {mem} D n k w tokens =
    walk_agree g (memory_grammar mem.rules) (automaton g t) (memory_automaton mem) w AllLow
    (λ S U c e s x h. D.stays_low S c e U h s)
    (λ S c s x. sym (D.steps S c s (code x)))
    n k D.start_is D.start_low
  where
    code : {c : ℕ} → CodeOf w c → c < 64
    code (inl e) = omega (arith, e)
    code {c = c} (inr i) = tokens c i

-- ---- what loading answers

pub machine_ready : {x : Reading} {g : Grammar} {t : Table} (mem : Machine) → x ≡ whole g t → Drives g t mem → MachineIs x (Ok tt) mem
machine_ready mem e D = subst (λ (y : Reading). MachineIs y (Ok tt) mem) (sym e) (refl, D)
