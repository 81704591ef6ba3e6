-- A run ends with one of two statuses.
use Rattle.std.proofs.Common.{refl, inl, inr}
use Rattle.script_desk.proofs.drawing.status_at.Goals as goal

pub returns-then-is_end : goal.returns-then-is_end
returns-then-is_end c = inr refl

pub returns-else-is_end : goal.returns-else-is_end
returns-else-is_end c = inl refl
