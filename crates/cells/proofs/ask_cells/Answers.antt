use Rattle.cell_demands.proofs.DemandLaws.{asks_then}
use Rattle.cells.proofs.AskedLaws.{decides_agree, holds_asked, holds_conflicts}
use Rattle.cells.proofs.ask_cells.Goals as goal

pub returns-clause-decides : goal.returns-clause-decides
returns-clause-decides c =
    let none = c.requires.asked_value in
    let a = asks_then c.ask_codes.ensures (asks_then c.ask_lines.ensures c.ask_rules.ensures) in
    λ g t entries kinds values gotos strings H e C M. (
      decides_agree g t H _ _ e C M none.0 none.1 a c.agree.ensures,
      holds_asked g t H _ _ e C M none.0 none.1 a c.agree.ensures,
      holds_conflicts g t H _ _ e C M none.0 none.1 a,
    )
