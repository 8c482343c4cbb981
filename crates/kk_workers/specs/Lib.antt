pub mod Totals
pub mod WorkerCalls
pub mod WorkerLoop
pub mod Worker
pub mod Runs
pub mod Received
pub mod Receiving
pub mod Laws
