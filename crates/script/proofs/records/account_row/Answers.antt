use Rattle.script.proofs.Rows.{rows_laws}
use Rattle.script.proofs.records.account_row.Goals as goal

pub overflow_mul-at : goal.overflow_mul-at
overflow_mul-at c = search rows_laws

pub overflow_add-end : goal.overflow_add-end
overflow_add-end c = search rows_laws

pub slice_bounds-result-count : goal.slice_bounds-result-count
slice_bounds-result-count c = search rows_laws

pub slice_bounds-result-start : goal.slice_bounds-result-start
slice_bounds-result-start c = search rows_laws

pub slice_bounds-result-end : goal.slice_bounds-result-end
slice_bounds-result-end c = search rows_laws

pub returns : goal.returns
returns c = search rows_laws
