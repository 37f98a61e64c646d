-- The files of the examples are accepted, by computation of the definition: the listing that 01, "The trace program",
-- writes out, P1's project, and the two that differ in their execution numbers. Assumes nothing.
use Rattle.wire.proofs.Usual.{◌≡◌, refl}
use Rattle.wire.specs.Places.{first_bad, all}
use Rattle.kind.specs.Kinds.{family_of}
use Rattle.kind.specs.Devices.{device_of}
use Rattle.kind.specs.Parameters.{zeros_from, arithmetic_rule, parameters_fit, parameters_ok}
use Rattle.contents.specs.Contents.{body_start, body_size, body_of, follows_ok, contents_ok}
use Rattle.project.specs.Project.{row_of, device, group_count, run_linked, input_count, block_count, parameters_in}
use Rattle.project.specs.Project.{link_in}
use Rattle.project.specs.Project.{other_order, output_count, record_size}
use Rattle.std.specs.Prelude.{Ok}
use Rattle.casefile.specs.Bodies.{body_in}
use Rattle.casefile.specs.Rules.{size_ok, groups_size_ok, group_record_ok, inputs_size_ok, input_rule, input_record_ok}
use Rattle.casefile.specs.Rules.{blocks_size_ok, block_rule, block_record_ok, order_ok, link_known, source_typed}
use Rattle.casefile.specs.Rules.{source_grouped, source_fits, link_active_of, link_ok, links_ok, outputs_size_ok}
use Rattle.casefile.specs.Rules.{output_rule, output_record_ok, passes, link_passes, block_passes, output_passes}
use Rattle.casefile.specs.Rules.{nothing_reads, channel_rule_of, channel_ok, channels_ok, trace_ok}
use Rattle.casefile.specs.Refusal.{verdict}
use Rattle.demands.specs.Listing.{listing}
use Rattle.demands.specs.Examples.{subtraction, as_numbered, otherwise}

pub accepted_all : ((verdict listing ≡ Ok tt) × (verdict subtraction ≡ Ok tt))
    × ((verdict as_numbered ≡ Ok tt) × (verdict otherwise ≡ Ok tt))
unfolding listing subtraction as_numbered otherwise verdict size_ok contents_ok follows_ok body_start
    body_size body_of body_in row_of groups_size_ok group_record_ok inputs_size_ok input_record_ok input_rule
    blocks_size_ok block_record_ok block_rule order_ok other_order links_ok link_ok link_known source_fits
    source_typed source_grouped link_active_of outputs_size_ok output_record_ok output_rule channels_ok channel_ok
    channel_rule_of nothing_reads block_passes link_passes output_passes passes trace_ok device group_count run_linked
    input_count block_count parameters_in link_in output_count record_size first_bad all parameters_ok parameters_fit
    arithmetic_rule zeros_from family_of device_of
accepted_all = ((refl, refl), (refl, refl))
