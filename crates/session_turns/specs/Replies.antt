-- What a request is answered, as bytes.
use Rattle.std.specs.Prelude.{ℕ, List, [], ◌++◌, codes, length, Option, Some, None}
use Rattle.std.specs.Fmt.{decimal}
use Rattle.byte_streams.specs.Refusals.{Parts, line_text, without_line}
use Rattle.block_file.specs.Faults as block
use Rattle.elf32.specs.Refusals as elf
use Rattle.session_turns.specs.declared.kept.KeptAnswer.{KeptAnswer}
use Rattle.session_turns.specs.declared.refusal.FrameRefusal.{FrameRefusal}
use Rattle.session_turns.specs.declared.refusal.FrameRefusal.TheVariants.{Block, Elf, FileTooLong, OlderRules, NoProgram, TooLong, TooMuchGas, NotADump, NoFrame, OtherDigest, TooHigh}
use Rattle.session_turns.specs.declared.refusal.Failure.{Failure}
use Rattle.session_turns.specs.declared.refusal.Failure.TheVariants as want

-- a request is done, and these are the bytes of its answer; or it is refused; or this machine failed
pub data TurnReply : Type 0 where
  Done : List ℕ → TurnReply
  Refused : FrameRefusal → TurnReply
  Failed : Failure → TurnReply

-- the parts of what a refusal prints
abbrev pub frame_refusal_parts : FrameRefusal → Parts
frame_refusal_parts (Block fault) = record { area = codes "block"; line = Some fault.line; name = block.name_of fault.cause; number = block.number_of fault.cause }
frame_refusal_parts (Elf fault) = without_line (codes "elf") (elf.name_of fault) (elf.number_of fault)
frame_refusal_parts FileTooLong = without_line (codes "file") (codes "TooLong") 3
frame_refusal_parts OlderRules = without_line (codes "frame") (codes "OlderRules") 2
frame_refusal_parts NoProgram = without_line (codes "frame") (codes "NoProgram") 3
frame_refusal_parts TooLong = without_line (codes "frame") (codes "TooLong") 4
frame_refusal_parts TooMuchGas = without_line (codes "frame") (codes "TooMuchGas") 5
frame_refusal_parts NotADump = without_line (codes "frame") (codes "NotADump") 6
frame_refusal_parts NoFrame = without_line (codes "frame") (codes "NoFrame") 7
frame_refusal_parts OtherDigest = without_line (codes "frame") (codes "OtherDigest") 8
frame_refusal_parts TooHigh = without_line (codes "frame") (codes "TooHigh") 9

-- the parts of what a failure prints: memory ran out for a body or a text, a program, a run or what it leaves, or an answer
abbrev pub parts_of_failure : Failure → Parts
parts_of_failure want.Block = without_line (codes "block") (codes "Memory") 8
parts_of_failure want.Program = without_line (codes "elf") (codes "Memory") 16
parts_of_failure want.Run = without_line (codes "seq") (codes "Memory") 1
parts_of_failure want.Answer = without_line (codes "output") (codes "Memory") 3

-- the line of an answer, with its LF
abbrev pub answer_line : TurnReply → List ℕ
answer_line (Done bytes) = codes "ok " ++ decimal (length bytes) ++ codes "\n"
answer_line (Refused refusal) = line_text (codes "refused ") (frame_refusal_parts refusal)
answer_line (Failed failure) = line_text (codes "failed ") (parts_of_failure failure)

-- the bytes after it
abbrev pub answer_bytes : TurnReply → List ℕ
answer_bytes (Done bytes) = bytes
answer_bytes _ = []

-- an answer: its line, and as many bytes as the line says
abbrev pub turn_reply_text : TurnReply → List ℕ
turn_reply_text reply = answer_line reply ++ answer_bytes reply

-- the answer that is kept of a frame: its bytes, or why it was refused
abbrev pub done_answer : List ℕ → KeptAnswer
done_answer bytes = record { refusal = None; bytes = bytes }

abbrev pub refused_answer : FrameRefusal → KeptAnswer
refused_answer refusal = record { refusal = Some refusal; bytes = [] }

abbrev pub refused_or_done : Option FrameRefusal → List ℕ → TurnReply
refused_or_done None bytes = Done bytes
refused_or_done (Some refusal) bytes = Refused refusal

abbrev pub kept_reply : KeptAnswer → TurnReply
kept_reply kept = refused_or_done kept.refusal kept.bytes
