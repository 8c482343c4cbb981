-- Why a file isn't read, as why it isn't sent.
use Rattle.kk_sender.specs.declared.fault.FileFault.{FileFault}
use Rattle.kk_sender.specs.declared.fault.FileFault.TheVariants as file
use Rattle.kk_sender.specs.declared.fault.SendFault.{SendFault}
use Rattle.kk_sender.specs.declared.fault.SendFault.TheVariants as send

abbrev pub as_send_fault : FileFault → SendFault
as_send_fault file.Read = send.Read
as_send_fault (file.Length got more) = send.Length got more
