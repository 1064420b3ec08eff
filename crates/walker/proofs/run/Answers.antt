use mathlib.Core.Path.{refl}
use Prim.Native.Nat.{◌<◌}
use lib.ListN.{length, set, length-set}
use borrow.Author.Rules.{rules}
use Rattle.walker.proofs.RunLaws.{stands_first, going_first, moved, going_on, going_whole, going_wrong, going_short, ended_same, ended_first}
use Rattle.walker.proofs.run.Goals as goal

pub returns-then-is_empty : goal.returns-then-is_empty
returns-then-is_empty c = let a = c.args in
    ended_first a.machine.now (length a.stack.now) (length a.listing.now) a.tokens.now (search rules)

pub loop-next-init : goal.loop-next-init
loop-next-init c = let a = c.args in
    let some : 0 < length a.stack.now = search rules in
    let m = set a.stack.now 0 a.machine.now.start in (
      stands_first a.machine.now (length m) (length a.listing.now) a.tokens.now a.stack.now a.listing.now c.code_at.result some refl refl c.code_at.ensures,
      going_first a.machine.now (length m) (length a.listing.now) a.tokens.now a.stack.now a.listing.now c.code_at.result some refl,
    )

pub loop-next-smaller : goal.loop-next-smaller
loop-next-smaller c = let x = c.advance in
    (moved c.args.machine.now _ _ _ _ _ x.new.stack x.new.listing _ x.result c.loop-next.invariant.0 (x.ensures c.args.machine.now.start) c.in-On.is).less

pub loop-next-preserved : goal.loop-next-preserved
loop-next-preserved c = let x = c.advance in (
  (moved c.args.machine.now _ _ _ _ _ x.new.stack x.new.listing _ x.result c.loop-next.invariant.0 (x.ensures c.args.machine.now.start) c.in-On.is).stands,
  going_on c.args.machine.now _ _ _ _ _ x.new.stack x.new.listing _ x.result c.loop-next.invariant.0 (x.ensures c.args.machine.now.start) c.in-On.is c.loop-next.invariant.1,
)

pub returns-in-Whole : goal.returns-in-Whole
returns-in-Whole c = let a = c.args in
    let x = c.advance in
    ended_same a.machine.now _ (length a.stack.now) (length a.listing.now) a.tokens.now (simp length-set)
    (going_whole a.machine.now _ _ _ _ _ x.new.stack x.new.listing _ x.result c.loop-next.invariant.0 (x.ensures a.machine.now.start) c.in-Whole.is c.loop-next.invariant.1)

pub returns-in-Wrong : goal.returns-in-Wrong
returns-in-Wrong c = let a = c.args in
    let x = c.advance in
    ended_same a.machine.now _ (length a.stack.now) (length a.listing.now) a.tokens.now (simp length-set)
    (going_wrong a.machine.now _ _ _ _ _ x.new.stack x.new.listing _ x.result c.loop-next.invariant.0 (x.ensures a.machine.now.start) c.in-Wrong.is c.loop-next.invariant.1)

pub returns-in-Short : goal.returns-in-Short
returns-in-Short c = let a = c.args in
    let x = c.advance in
    ended_same a.machine.now _ (length a.stack.now) (length a.listing.now) a.tokens.now (simp length-set)
    (going_short a.machine.now _ _ _ _ _ x.new.stack x.new.listing _ x.result c.loop-next.invariant.0 (x.ensures a.machine.now.start) c.in-Short.is c.loop-next.invariant.1)
