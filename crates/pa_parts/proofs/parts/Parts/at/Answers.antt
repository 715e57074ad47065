use Rattle.pa_parts.proofs.Turns.{part_lent}
use Rattle.pa_parts.proofs.parts.Parts.at.Goals as goal

pub returns-clause-part : goal.returns-clause-part
returns-clause-part c = part_lent c.self.inside.parts.items c.args.self.now c.args.place c.index-part.result.now c.self.view_is c.requires c.index-part.ensures
