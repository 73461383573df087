use Rattle.fused.proofs.Judges.{leaves_fit}
use Rattle.fused.proofs.judge.written_fit.Goals as goal

pub overflow_sub-sizes : goal.overflow_sub-sizes
overflow_sub-sizes c = leaves_fit c.args.sizes
