use mathlib.Core.Path.{refl}
use Rattle.std.proofs.Common.{rules}
use Rattle.kernel_lines.proofs.LinkLaws.{nothing_linked, linked_line}
use Rattle.kernel_lines.proofs.link_lines.Goals as goal

pub loop-l-init : goal.loop-l-init
loop-l-init c = nothing_linked _ _ _ c.requires.links_len (search rules) (search rules) (c.fill.ensures.after (λ y e. e))

pub loop-l-preserved : goal.loop-l-preserved
loop-l-preserved c =
    let n = c.state_of-q.ensures in
    linked_line c.loop-l.invariant (search rules) c.state_of-q.result n.0 n.1 refl refl
