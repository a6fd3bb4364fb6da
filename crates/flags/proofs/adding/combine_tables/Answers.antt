-- Theirs above the incoming base are a table. Assumes nothing.
use Rattle.records_spec.proofs.Unions.{above_table}
use Rattle.flags.proofs.adding.combine_tables.Goals as goal

pub place_union-requires-clause-table_2 : goal.place_union-requires-clause-table_2
place_union-requires-clause-table_2 c = above_table c.requires.above
