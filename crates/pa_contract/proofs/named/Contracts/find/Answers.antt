-- The place of the name is the place of the contract.
use Rattle.std.proofs.Common.{◌<◌, length, ap, ◌∙◌, Some, arith}
use Rattle.pa_contract.specs.Named.{contract_named}
use Rattle.pa_contract.proofs.Lookups.{found_contract, name_count}
use Rattle.pa_contract.proofs.named.Contracts.find.Goals as goal

pub index-requires : goal.index-requires
index-requires c = omega (arith, c.in-Some.ensures.within, ap length c.self.invariant, name_count c.self.inside.list.items)

pub returns : goal.returns
returns c =
    let within : c.in-Some.place < length c.self.inside.list.items =
    omega (arith, c.in-Some.ensures.within, ap length c.self.invariant, name_count c.self.inside.list.items) in
    ap (λ n. Some n.contract) c.behind-self.view_is
    ∙ found_contract c.args.name.now c.self.inside.list.items _ c.in-Some.place c.index.result.now c.self.invariant c.in-Some.ensures.index
    within c.index.ensures
    ∙ ap (λ named. contract_named named c.args.name.now) c.self.view_is
