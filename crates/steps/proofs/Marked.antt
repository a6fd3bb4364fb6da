-- P1 TO P14 TOGETHER: what the calls tell is what the table says. By computation over the definitions that their contracts cite.
-- Assumes nothing.
use mathlib.Core.Path.{◌≡◌, refl}
use mathlib.Core.List.{map}
use Rattle.fields_spec.specs.Big.{said_after}
use Rattle.fields_spec.specs.Varint.{groups, varint, high, value, found}
use Rattle.records_spec.specs.Tables.{records_of, epochs_of, counts_of, ascending, has, held, put, union}
use Rattle.records_spec.specs.Flags.{same, proper}
use Rattle.codec_spec.specs.Reading.{next, parse, read_as, read}
use Rattle.flags_spec.specs.Merging.{added}
use Rattle.flags_spec.specs.Calls.{combined_added}
use Rattle.rows_spec.specs.Order.{order}
use Rattle.rows_spec.specs.Rows.{ascends, ids_of, parts_of, rows_under, rows_of, proper_rows}
use Rattle.sums_spec.specs.Joins.{add_row}
use Rattle.sums_spec.specs.Sums.{any_of_zeros, without_zeros, basic_plus}
use Rattle.sums_spec.specs.Calls.{summed}
use Rattle.splitting_spec.specs.Sections.{spare, section, sections, split}
use Rattle.splitting_spec.specs.Calls.{split_value}
use Rattle.removal_spec.specs.Removing.{all_under, all_fine, minus, removed}
use Rattle.removal_spec.specs.Calls.{combined_removed}
use Rattle.records_spec.specs.Answers.{placing_if}
use Rattle.records_spec.specs.Outcomes.{leaving}
use Rattle.steps.specs.History.{step}
use Rattle.steps.specs.Marked.{tell, Example, examples}

pub marked : map (λ (x : Example). tell x.0) examples ≡ map (λ (x : Example). x.1) examples
unfolding examples tell step said_after groups varint high value found records_of epochs_of counts_of ascending has held put union same proper leaving
    placing_if next parse read_as read added combined_added order ascends ids_of parts_of rows_under rows_of proper_rows add_row any_of_zeros without_zeros
    basic_plus summed spare section sections split split_value all_under all_fine minus removed combined_removed
marked = refl
