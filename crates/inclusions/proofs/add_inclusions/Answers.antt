use Rattle.inclusions.proofs.AskLaws.{state_all}
use Rattle.inclusions.proofs.IncludeLaws.{adds_included}
use Rattle.inclusions.proofs.add_inclusions.Goals as goal

pub returns : goal.returns
returns c =
    let a = state_all c.add_kernel.ensures c.add_rules.ensures in
    record { adds = a; adds_2 = λ g t strings H e C U. adds_included g t H _ _ e c.requires.p_bound.0 C U a }
