use Rattle.table_test.proofs.write_row.Goals as goal

pub returns : goal.returns
returns c =
    rw (c.put_u8.ensures, c.put_u64-2.ensures, c.put_u64.ensures)
