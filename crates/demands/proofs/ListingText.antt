-- The trace of the listing of 01, "The trace program": how it ends and what it prints, from the two cycle calls by
-- computation of the definitions of the lines. Assumes nothing.
use Rattle.wire.proofs.Usual.{ℕ, ◌≡◌, refl, ap₂, ◌∙◌, List, [], ◌∷◌, ◌++◌}
use Rattle.wire.specs.Places.{first_bad, all}
use Rattle.numbers.specs.Types.{type_of, value}
use Rattle.contents.specs.Contents.{body_start, body_size, body_of, follows_ok, contents_ok}
use Rattle.kind.specs.Kinds.{family_of}
use Rattle.project.specs.Project.{row_of, group_count, input_count, block_count, parameters_in, output_count}
use Rattle.project.specs.Project.{record_size}
use Rattle.casefile.specs.Bodies.{body_in, project_of, record_count, record_of}
use Rattle.casefile.specs.declared.table.Rule.{Rule}
use Rattle.std.specs.Prelude.{Result}
use Rattle.block.specs.Finding.{finding_in}
use Rattle.evaluator.specs.State.{outputs_length, findings_length}
use Rattle.evaluator.specs.declared.Refusal.{Refusal}
use Rattle.evaluator.specs.Answer.{Lent, Left}
use Rattle.evaluator.specs.Runs.{run}
use Rattle.report.specs.Decimal.{digits_within, decimal, signed_decimal}
use Rattle.report.specs.Lines.{finding_line, end_line}
use Rattle.report.specs.Samples.{codes}
use Rattle.tracer.specs.declared.Ran.{Ran}
use Rattle.tracer.specs.Traced.{records_from, fresh_lent, calls, all_ran, ended, run_end, unless_refused, end_of}
use Rattle.tracer.specs.Text.{line_of, lines_of, last_line, texts_from, texts, joined, trace_text}
use Rattle.demands.specs.Listing.{listing, listing_prints}
use Rattle.demands.proofs.Accepted.{accepted_all}
use Rattle.demands.proofs.Listing.{at_first, after_first, after_second, listing_first, listing_second}

-- the two records and the fresh state
given : (records_from listing 0 (record_count listing) ≡ record_of listing 0 ∷ record_of listing 1 ∷ [])
    × (fresh_lent listing ≡ at_first)
unfolding listing records_from record_count fresh_lent outputs_length findings_length project_of body_start body_size
    body_of follows_ok contents_ok body_in group_count input_count block_count output_count record_size first_bad all
given = (refl, refl)

called : calls listing ≡ after_first ∷ after_second ∷ []
unfolding calls run
called =
    ap₂ (λ (Rs : List (List ℕ)) (L : Lent). run listing Rs L) given.0 given.1
    ∙ ap₂ (λ (a b : Left). a ∷ b ∷ []) listing_first listing_second

-- 01, "The trace program": two cycles, one finding
pub listing_end : end_of listing ≡ all_ran 2 1
unfolding end_of run_end ended
listing_end =
    ap₂ (λ (v : Result (Unit {0}) Rule) (ls : List Left). unless_refused v (ended 0 0 ls)) accepted_all.0.0 called

computed :
    joined (texts_from (project_of listing).blocks 0 (after_first ∷ after_second ∷ [])) ++ last_line (all_ran 2 1)
    ≡ listing_prints
unfolding listing project_of body_start body_size body_of follows_ok contents_ok body_in row_of parameters_in
    family_of type_of value finding_in joined texts_from lines_of line_of finding_line end_line digits_within decimal
    signed_decimal codes first_bad all
computed = refl

-- 01, "The trace program": the two lines that it prints
pub listing_text : trace_text listing ≡ listing_prints
unfolding trace_text texts
listing_text =
    ap₂
    (λ (ls : List Left) (e : Result Ran Refusal).
    joined (texts_from (project_of listing).blocks 0 ls) ++ last_line e)
    called listing_end
    ∙ computed
