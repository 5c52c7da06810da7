-- The lines that are handed on are those of the bytes that were read, by the tree of the front. Assumes nothing.
use Rattle.light_report.proofs.TreeBytes.{lines-handed}
use Rattle.light_report.proofs.write_chunk.Goals as goal

pub write_lines-requires : goal.write_lines-requires
write_lines-requires c =
    let put = c.put_lines-end.ensures in
    lines-handed _ _ _ _ c.args.out.now c.put_lines-end.result c.requires
    (put.out_after, (put.value, put.upper_bound))
