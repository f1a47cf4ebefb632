-- How a session is refused.
use Rattle.session_disk.specs.declared.fault.OpenFault.{OpenFault}
use Rattle.session_disk.specs.declared.fault.OpenFault.TheVariants as disk
use Rattle.session_states.specs.declared.fault.StoreFault.{StoreFault}
use Rattle.session_states.specs.declared.fault.StoreFault.TheVariants as told
use Rattle.std.specs.declared.convert.Infallible.{Infallible}
use Rattle.session_requests.specs.declared.request.RequestFault.{RequestFault}
use Rattle.session_requests.specs.declared.request.RequestFault.TheVariants as request
use Rattle.session_serving.specs.Serving.{Shutting}
use Rattle.session_serving.specs.declared.serving.ServeFault.{ServeFault}
use Rattle.session_serving.specs.declared.serving.ServeFault.TheVariants as serve
use Rattle.session_turns.specs.declared.state.State.{State}
use Rattle.engines.specs.declared.fault.InputFault.TheVariants.{BadLine, Cut, Unreadable}
use Rattle.engines.specs.declared.fault.Refusal.{Refusal}
use Rattle.engines.specs.declared.fault.Refusal.TheVariants.{Output, Request, Store}

-- why the command is refused if bytes that are no request ended its session
abbrev pub broken_of : RequestFault → Refusal
broken_of request.BadLine = Request BadLine
broken_of request.Cut = Request Cut

-- why the command is refused if a fault ended its session in memory, which nothing shuts
abbrev pub cut_of : ServeFault Infallible → Refusal
cut_of (serve.Broken fault) = broken_of fault
cut_of serve.Unreadable = Request Unreadable
cut_of (serve.Output fault) = Output fault
cut_of (serve.Shut never) = elim never [ ]

-- no request shuts a session in memory
abbrev pub never_shut : Shutting State Infallible
never_shut s ask fault next = ⊥

-- why the command is refused if a fault ended its session over a file
abbrev pub durably_cut : ServeFault StoreFault → Refusal
durably_cut (serve.Broken fault) = broken_of fault
durably_cut serve.Unreadable = Request Unreadable
durably_cut (serve.Output fault) = Output fault
durably_cut (serve.Shut fault) = Store fault

-- the fault that is reported for a file that is not opened
abbrev pub opening_fault : OpenFault → StoreFault
opening_fault disk.Busy = told.Busy
opening_fault disk.HotJournal = told.HotJournal
opening_fault disk.Unreadable = told.Unreadable
opening_fault disk.NotASession = told.NotASession
opening_fault disk.Full = told.Full
opening_fault disk.Memory = told.Memory
