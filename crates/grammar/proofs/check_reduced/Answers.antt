-- `grammar::check_reduced` meets its contract. Assumes nothing.
use mathlib.Core.Path.{sym, ap, ◌∙◌}
use Rattle.grammar.specs.declared.GrammarReply.TheVariants as reply
use Rattle.grammar.specs.Memory.{reply_of}
use Rattle.grammar.proofs.ReducedLaws.{reduced_unproductive, reduced_unreachable, reduced_accepted, ready_shaped, ready_holds, ready_ranges, terminals_is, nonterminals_is, goal_is}
use Rattle.grammar.proofs.check_reduced.Goals as goal

pub lowest_unproductive-unproductive-requires : goal.lowest_unproductive-unproductive-requires
lowest_unproductive-unproductive-requires c = record { shaped = ready_shaped c.requires.ready; terminals_bound = (ready_ranges c.requires.ready).0 }

pub returns-in-At : goal.returns-in-At
returns-in-At c =
    λ g r.
    c.refuse.ensures
    ∙ sym (ap reply_of (reduced_unproductive g (sym
    (c.lowest_unproductive-unproductive.ensures g (ready_holds r) (terminals_is r) (nonterminals_is r))
    ∙ c.in-At.is)))

pub lowest_unreachable-unreachable-requires : goal.lowest_unreachable-unreachable-requires
lowest_unreachable-unreachable-requires c =
    record { shaped = ready_shaped c.requires.ready; goal_bound = ((ready_ranges c.requires.ready).1, (ready_ranges c.requires.ready).0.1) }

pub returns-in-At-unreachable : goal.returns-in-At-unreachable
returns-in-At-unreachable c =
    λ g r.
    c.refuse-in-At-unreachable.ensures
    ∙ sym (ap reply_of (reduced_unreachable g (sym
    (c.lowest_unproductive-unproductive.ensures g (ready_holds r) (terminals_is r) (nonterminals_is r))
    ∙ c.in_default.is)
    (sym (c.lowest_unreachable-unreachable.ensures g (ready_holds r) (goal_is r) (nonterminals_is r))
    ∙ c.in-At-unreachable.is)))

pub returns : goal.returns
returns c =
    λ g r.
    ap reply.Read r.heading
    ∙ sym (ap reply_of (reduced_accepted g (sym
    (c.lowest_unproductive-unproductive.ensures g (ready_holds r) (terminals_is r) (nonterminals_is r))
    ∙ c.in_default.is)
    (sym (c.lowest_unreachable-unreachable.ensures g (ready_holds r) (goal_is r) (nonterminals_is r)) ∙ c.in_default-unreachable.is)))
