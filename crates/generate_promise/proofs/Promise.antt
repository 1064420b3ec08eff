-- The promise (specs/Promise.antt), proved: a load is a derivation of the goal, and demand 3 tells what a session over it is.
use Prim.Native.Nat.{ℕ, ◌≤◌}
use mathlib.Core.Path.{◌≡◌, refl, sym, subst, ◌∙◌}
use mathlib.Core.List.{List}
use lib.ListN.{length}
use Rattle.language.specs.Grammar.{Grammar}
use Rattle.language.specs.Derivation.{Tree, yield, IsTree}
use Rattle.language.specs.Listing.{listing}
use Rattle.language.proofs.Terminals.{sentence_terminals}
use Rattle.leftcorner.specs.Table.{Table}
use Rattle.reply.specs.declared.Reply.TheVariants.{Accepted}
use Rattle.grammar.specs.Book.{accepted, grammar_of}
use Rattle.grammar.proofs.GrammarLaws.{Reduced, accepted_reduced}
use Rattle.table_facts.proofs.Sound.{tables_grammar}
use Rattle.checker.specs.Checked.{verdict_of, Accepts}
use Rattle.session.specs.Session.{session}
use Rattle.session.specs.Demand3.{Needs, whole_with, Demanded}
use Rattle.session.proofs.Demand3.{demand3}
use Rattle.generate_loads.specs.Load.{stepped, drawn, load}
use Rattle.generate_loads.proofs.GrownLaws.{grown_terminal, grown_node, load_tree}
use Rattle.generate_loads.proofs.Lowest.{shortest_lowest}
use Rattle.generator.proofs.AnswerLaws.{fitted_written, fitted_short, generated_deep, generated_book}
use Rattle.generate_promise.specs.Promise.{Expansion, Promised, GeneratorPromise}

-- what the walker returns for a derivation of the goal
module _ (gs s : List ℕ) (T : Tree) where
  abbrev Walked : Grammar → Type 0
  Walked g = (t : Table) × Accepts gs s g t × (stack : ℕ) × (rules : ℕ) × Needs g t (yield T) stack rules
      × ((n k : ℕ) → stack ≤ n → rules ≤ k → session gs s (yield T) n k ≡ whole_with g (yield T) n k T)

  walked_by : {g : Grammar} {t : Table} → Accepts gs s g t → IsTree g T g.goal → Demanded gs s g t (yield T) → Walked g
  walked_by {t = t} a h D = (t, a, D.stack_need, D.listing_need, D.needs, λ n k u v. (D.enough n k u v).its_derivation T h refl)

  walked : verdict_of gs s ≡ Accepted 0 → {g : Grammar} → grammar_of gs ≡ accepted g → IsTree g T g.goal → length (yield T) ≤ 65535 → Walked g
  walked v {g} e h few =
      let D = demand3 gs s v in
      let same : D.0 ≡ g = same_grammar (sym (tables_grammar gs s D.2.reads) ∙ e) in
      let i : IsTree D.0 T D.0.goal = subst (λ (x : Grammar). IsTree x T x.goal) (sym same) h in
      subst Walked same
      (walked_by D.2 i (D.3 (yield T) few (λ a m. sentence_terminals D.0 a (record { tree = T; derives = i; yields_it = refl }) m)))
    where
      same_grammar : {q g : Grammar} → accepted q ≡ accepted g → q ≡ g
      same_grammar z = cc

module _ (gs : List ℕ) (g : Grammar) (e : grammar_of gs ≡ accepted g) where
  reduced : Reduced g
  reduced = accepted_reduced gs g e

  expansion : Expansion g
  expansion = record {
    nonterminal = grown_node g reduced.formed reduced.productive;
    terminal = grown_terminal g reduced.formed reduced.productive;
    first_lowest = shortest_lowest g reduced.formed reduced.productive;
  }

  promised : (seed d : ℕ) → d ≤ 15 → Promised gs g seed d (load g seed d)
  promised seed d h =
      let T = load g seed d in
      let is = load_tree g reduced.formed reduced.productive seed d in
      record {
        written = λ n k a b c. generated_book gs seed d n k h e ∙ fitted_written n k (yield T) (listing g T) a b c;
        short = λ n k m. generated_book gs seed d n k h e ∙ fitted_short n k (yield T) (listing g T) m;
        derives = is;
        walked = λ s v few. walked gs s T v e is few;
      }

first_draw : (stepped 1 ≡ 1103527590) × (drawn 1 ≡ 16838)
unfolding stepped drawn
first_draw = (refl, refl)

pub generator_promise : GeneratorPromise
generator_promise = record {
  first_draw = first_draw;
  deep = generated_deep;
  refused = λ gs why e seed d n k h. generated_book gs seed d n k h e;
  loads = λ gs g e. (expansion gs g e, promised gs g e);
}
