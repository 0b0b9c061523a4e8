mod Asking
mod ConfTasks
mod Adding
