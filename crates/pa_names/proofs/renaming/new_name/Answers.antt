use Rattle.std.proofs.Common.{◌≡◌, false, position, rules}
use Rattle.std.specs.Prelude.{Some}
use Rattle.std.specs.List.{list_any}
use Rattle.std.specs.Str.{bytes_eq}
use Rattle.pa_names.specs.Names.{first_names}
use Rattle.pa_names.proofs.Renamings.{renamed_at, renamed_nowhere}
use Rattle.pa_names.proofs.renaming.new_name.Goals as goal

pub returns-in-Some : goal.returns-in-Some
returns-in-Some c =
    let found : position (bytes_eq c.args.name.now) (first_names c.args.pairs.now) ≡ Some c.in-Some.place = search rules in
    renamed_at c.args.pairs.now c.args.name.now c.in-Some.place c.index-pairs-place.result found

pub returns-in-None : goal.returns-in-None
returns-in-None c =
    let nowhere : list_any (bytes_eq c.args.name.now) (first_names c.args.pairs.now) ≡ false = search rules in
    renamed_nowhere c.args.pairs.now c.args.name.now nowhere
