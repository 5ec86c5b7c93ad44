-- Text put into a buffer behind what is filled of it.
use Rattle.std.specs.Prelude.{ℕ, ◌≡◌, List, length}
use Rattle.text.specs.Text.{Put}
use Rattle.text.specs.declared.field.Text.{Text}

-- a text put behind what is filled of a buffer, in at most so many bytes, all behind it as it was; the buffer is the same one
pub record Puts (most : ℕ) (text : List ℕ) (before after : Text) : Type 0 where
  pub put : Put most before.filled text before.buffer.now after.buffer.now after.filled
  pub room : length after.buffer.now ≡ length before.buffer.now
  pub same : after.buffer.ghost_name ≡ before.buffer.ghost_name
