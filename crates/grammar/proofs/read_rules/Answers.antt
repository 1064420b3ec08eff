use Prim.Native.Nat.{◌+◌}
use native.Mathlib.Omega.{arith}
use lib.ListN.{length}
use Rattle.grammar.proofs.ListLaws.{Listing, listing_start, row_empty, listing_read, listing_refused, listing_done}
use borrow.Author.Rules.{rules}
use Rattle.grammar.proofs.read_rules.Goals as goal
use Rattle.grammar.proofs.read_rules.Goals.{In-Read}

pub loop-i-init : goal.loop-i-init
loop-i-init c = record { same_length = search rules; listing = listing_start _ _ _ _ _ _ c.requires.m_value.0 }

pub read_rule-requires : goal.read_rule-requires
read_rule-requires c =
    record { t_bound = c.requires.t_bound; s_len_bound = c.requires.s_len_bound; empty_row = row_empty _ _ _ _ _ _ c.loop-i.invariant.listing c.loop-i-test.true c.requires.m_value.1 }

pub returns-in-Refused : goal.returns-in-Refused
returns-in-Refused c =
    listing_refused _ _ _ _ _ _ c.loop-i.invariant.listing c.loop-i-test.true c.read_rule.ensures.answered c.read_rule.ensures.stored c.in-Refused.is

listing-more : (c : In-Read) → let a = c.args in Listing a.s.now a.t a.n a.count a.first (length a.m.now) (c.loop-i.i + 1) c.in-Read.next c.read_rule.new.m
listing-more c =
    listing_read _ _ _ _ _ _ c.loop-i.invariant.listing c.loop-i-test.true c.read_rule.ensures.answered c.read_rule.ensures.stored c.in-Read.is

pub loop-i-preserved : goal.loop-i-preserved
loop-i-preserved c = record { same_length = search rules; listing = listing-more (goal.at.loop-i-preserved c).In-Read }

pub returns-in-Read : goal.returns-in-Read
returns-in-Read c = listing_done _ _ _ _ _ _ (listing-more (goal.at.returns-in-Read c).In-Read) (omega arith)

pub returns : goal.returns
returns c = listing_done _ _ _ _ _ _ c.loop-i.invariant.listing c.loop-i-test.false
